-- `is_descriptor` meets its contract: two words, a mark and the id, one behind the other.
-- Assumes nothing.
use Prim.Native.Nat.{◌+◌}
use mathlib.Core.Path.{◌≡◌, sym, ◌∙◌}
use mathlib.Core.Bool.{true}
use mathlib.Core.List.{◌∷◌}
use lib.ListN.{take, drop, get_or}
use borrow.Author.Tests.{eq-eqb, ne_eqb}
use Rattle.slice.specs.Same.{same_bytes}
use Rattle.name_topic.specs.Names.{hex4}
use Rattle.name_topic.proofs.CompareLaws.{descriptor-pieces}
use Rattle.name_topic.proofs.descriptor.is_descriptor.Goals as goal

pub returns-then-not-is_word : goal.returns-then-not-is_word
returns-then-not-is_word c =
    let a = c.args in
    let other = sym c.is_word.ensures ∙ c.if-not-is_word.true in
    sym (descriptor-pieces a.s.now a.at a.range a.id c.requires ∙ rw other)

pub returns-then-not-is_word-2 : goal.returns-then-not-is_word-2
returns-then-not-is_word-2 c =
    let a = c.args in
    let other = sym c.is_word-2.ensures ∙ c.if-not-is_word-2.true in
    sym (descriptor-pieces a.s.now a.at a.range a.id c.requires ∙ rw (
      (let it : (let a = c.args in
          same_bytes (take 5 (drop a.at a.s.now)) (0x2F ∷ hex4 a.range.start) ≡ true) = sym c.is_word.ensures ∙ c.if-not-is_word.false in it),
      other,
    ))

pub returns-then-s-at-ne45 : goal.returns-then-s-at-ne45
returns-then-s-at-ne45 c =
    let a = c.args in
    sym
    (descriptor-pieces a.s.now a.at a.range a.id c.requires
    ∙ rw (
      (let it : (let a = c.args in
          same_bytes (take 5 (drop a.at a.s.now)) (0x2F ∷ hex4 a.range.start) ≡ true) = sym c.is_word.ensures ∙ c.if-not-is_word.false in it),
      (let it : (let a = c.args in
          same_bytes (take 5 (drop (a.at + 5) a.s.now)) (0x2D ∷ hex4 a.range.end) ≡ true) = sym c.is_word-2.ensures ∙ c.if-not-is_word-2.false in it),
      ne_eqb (get_or a.s.now (a.at + 10) 0) 0x2D c.if-s-at-ne45.true,
    ))

pub returns : goal.returns
returns c =
    let a = c.args in
    c.is_decimal.ensures
    ∙ sym
    (descriptor-pieces a.s.now a.at a.range a.id c.requires
    ∙ rw (
      (let it : (let a = c.args in
          same_bytes (take 5 (drop a.at a.s.now)) (0x2F ∷ hex4 a.range.start) ≡ true) = sym c.is_word.ensures ∙ c.if-not-is_word.false in it),
      (let it : (let a = c.args in
          same_bytes (take 5 (drop (a.at + 5) a.s.now)) (0x2D ∷ hex4 a.range.end) ≡ true) = sym c.is_word-2.ensures ∙ c.if-not-is_word-2.false in it),
      eq-eqb (get_or a.s.now (a.at + 10) 0) 0x2D c.if-s-at-ne45.false,
    ))
