-- `write_topic` meets its contract: the name is written to the part of the output behind the place, and fits there. Assumes nothing.
use Rattle.std.specs.Prelude.{Result, Ok}
use Prim.Native.Nat.{ℕ, ◌+◌, ◌-◌, ◌≤◌}
use native.Mathlib.Omega.{arith}
use mathlib.Core.Path.{◌≡◌, sym, ap, ◌∙◌}
use mathlib.Core.List.{List}
use lib.ListN.{length, take, drop}
use borrow.Rule.Slice.PartMut.{put_mid}
use Rattle.slice_int.specs.Put.{put}
use Rattle.name_topic.specs.Names.{segment_topic}
use Rattle.name_topic.specs.Build.{name_outcome, written}
use Rattle.writer.proofs.WritingLaws.{rest-long, put_rest}
use Rattle.writer.proofs.OutcomeLaws.{name-written, name-refused}
use Rattle.writer.proofs.write_topic.Goals.{Start}
use Rattle.writer.proofs.write_topic.Goals as goal
use Rattle.refusal.specs.declared.Refusal.{Refusal}

abbrev name : Start → List ℕ
name c = segment_topic c.args.path.now c.args.range (record { 0 = c.args.id })

-- what is lent to the call, and has room for the name
abbrev part : Start → List ℕ
part c = let o = c.args.out.now in take (length o - c.args.to) (drop c.args.to o)

part-fits : (c : Start) → length (name c) ≤ length (part c)
part-fits c = rest-long c.args.out.now c.args.to (length (name c)) c.requires

-- what the call's answer says
said : (i : Start) (x r : Result ℕ Refusal) (now : List ℕ) → r ≡ x → name_outcome r now ≡ written (name i) (part i) → name_outcome x now ≡ written (name i) (part i)
said i x r now e f = ap (λ (a : Result ℕ Refusal). name_outcome a now) (sym e) ∙ f

wrote : (i : Start) (r : Result ℕ Refusal) (now : List ℕ) (len : ℕ) → r ≡ Ok len → name_outcome r now ≡ written (name i) (part i)
    → (len ≡ length (name i)) × (now ≡ put (part i) 0 (name i))
wrote i r now len e f = name-written (name i) (part i) now (part-fits i) _ (said i _ r now e f)

pub overflow_add-result : goal.overflow_add-result
overflow_add-result c =
    let w = c.write_segment_topic in
    omega (arith, c.well_formed, c.requires, (wrote (goal.at.overflow_add-result c).Start w.result w.new.out _ c.in-Ok.is w.ensures).0)

pub returns-in-Ok : goal.returns-in-Ok
returns-in-Ok c =
    let i = (goal.at.returns-in-Ok c).Start in
    let w = c.write_segment_topic in
    let a = c.args in
    let o = a.out.now in
    let p = wrote i w.result w.new.out _ c.in-Ok.is w.ensures in
    (ap (λ (n : ℕ). a.to + n) p.0, ap (put_mid a.to (length o - a.to) o) p.1 ∙ put_rest o a.to (name i) c.requires)

pub returns-in-Err : goal.returns-in-Err
returns-in-Err c =
    let i = (goal.at.returns-in-Err c).Start in
    let w = c.write_segment_topic in
    absurd (name-refused (name i) (part i) w.new.out (part-fits i) _ (said i _ w.result w.new.out c.in-Err.is w.ensures))
