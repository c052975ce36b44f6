-- `is_segment_topic` meets its contract: the scheme, then the path, then the descriptor, each compared in place.
-- Assumes nothing.
use Prim.Native.Nat.{◌+◌, ◌-◌}
use native.Mathlib.Omega.{arith}
use mathlib.Core.Path.{◌≡◌, sym, ap, ◌∙◌}
use lib.ListN.{length, take, drop}
use Rattle.slice.specs.Same.{same_bytes, starts_with}
use Rattle.name_topic.proofs.NameLaws.{name-other-scheme, name-other-path, name-same-path}
use Rattle.name_topic.proofs.CompareLaws.{name-short}
use Rattle.name_topic.proofs.is_segment_topic.Goals.{then-text-lt22-via-then-text-lt22, then-text-lt22-via-else-text-lt22+then-text-path}
use Rattle.name_topic.proofs.is_segment_topic.Goals as goal

pub returns-then-text-lt22 : goal.returns-then-text-lt22
returns-then-text-lt22 c =
    let a = c.args in
    elim c.then-text-lt22.branch [
      | then-text-lt22-via-then-text-lt22 w ↦ sym (name-short a.text.now a.path.now a.range a.id (omega (arith, w.if-text-lt22.true)))
      | then-text-lt22-via-else-text-lt22+then-text-path w ↦
          sym (name-short a.text.now a.path.now a.range a.id (omega (arith, w.if-text-lt22.false, w.if-text-path.true)))
    ]

pub returns-then-not-has_scheme : goal.returns-then-not-has_scheme
returns-then-not-has_scheme c =
    let a = c.args in
    let other = sym c.has_scheme.ensures ∙ c.if-not-has_scheme.true in
    sym (name-other-scheme a.text.now a.path.now a.range a.id other)

pub returns-then-same : goal.returns-then-same
unfolding starts_with
returns-then-same c =
    let a = c.args in
    let n : 10 + length a.path.now - 10 ≡ length a.path.now = omega arith in
    let path = c.same.ensures ∙ ap (λ n. same_bytes (take n (drop 10 a.text.now)) a.path.now) n in
    let scheme = sym c.has_scheme.ensures ∙ c.if-not-has_scheme.false in
    c.is_descriptor.ensures ∙ sym (name-same-path a.text.now a.path.now a.range a.id scheme (sym path ∙ c.if-same.true))

pub returns-else-same : goal.returns-else-same
unfolding starts_with
returns-else-same c =
    let a = c.args in
    let n : 10 + length a.path.now - 10 ≡ length a.path.now = omega arith in
    let path = c.same.ensures ∙ ap (λ n. same_bytes (take n (drop 10 a.text.now)) a.path.now) n in
    let scheme = sym c.has_scheme.ensures ∙ c.if-not-has_scheme.false in
    c.if-same.false ∙ sym (name-other-path a.text.now a.path.now a.range a.id scheme (sym path ∙ c.if-same.false))
