-- `KeyRange::new` meets its contract: each return is the case of `new_key_range` that the tests before it leave.
-- Assumes nothing.
use borrow.Author.Tests.{lt-ltb, le-ltb}
use Rattle.topic_types.specs.KeyRanges.{new_key_range}
use Rattle.topic_types.proofs.KeyRange.new.Goals as goal

pub returns-then-start-gt-MAX_HASH : goal.returns-then-start-gt-MAX_HASH
unfolding new_key_range
returns-then-start-gt-MAX_HASH c = simp (lt-ltb _ _ c.if-start-gt-MAX_HASH.true)

pub returns-then-end-gt-MAX_HASH : goal.returns-then-end-gt-MAX_HASH
unfolding new_key_range
returns-then-end-gt-MAX_HASH c = simp (le-ltb _ _ c.if-start-gt-MAX_HASH.false, lt-ltb _ _ c.if-end-gt-MAX_HASH.true)

pub returns-then-end-start : goal.returns-then-end-start
unfolding new_key_range
returns-then-end-start c = simp (le-ltb _ _ c.if-start-gt-MAX_HASH.false, le-ltb _ _ c.if-end-gt-MAX_HASH.false, lt-ltb _ _ c.if-end-start.true)

pub returns : goal.returns
unfolding new_key_range
returns c = simp (le-ltb _ _ c.if-start-gt-MAX_HASH.false, le-ltb _ _ c.if-end-gt-MAX_HASH.false, le-ltb _ _ c.if-end-start.false)
