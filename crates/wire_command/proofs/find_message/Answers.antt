-- `find_message` meets its contract: one part is the message, and lies inside the bytes; any other number of them is told. Assumes nothing.
use native.Mathlib.Omega.{arith}
use Rattle.wire_command.specs.Places.{places_of}
use Rattle.wire_command.proofs.CommandLaws.{One, one-part, one-message, other-parts}
use Rattle.wire_command.proofs.find_message.Goals.{Then-found-eq1}
use Rattle.wire_command.proofs.find_message.Goals as goal

-- there is one part
one : (c : Then-found-eq1) → let p = c in
    One p.args.s.now p.find_parts-found.result (places_of p.args.n p.args.s.now)
one c = one-part _ _ _ c.find_parts-found.ensures c.if-found-eq1.true

pub overflow_add-end : goal.overflow_add-end
overflow_add-end c = let o = one (goal.at.overflow_add-end c).Then-found-eq1 in omega (arith, o.inside)

pub slice_bounds-number-end : goal.slice_bounds-number-end
slice_bounds-number-end c = let o = one (goal.at.slice_bounds-number-end c).Then-found-eq1 in omega (arith, o.inside)

pub returns-then-found-eq1 : goal.returns-then-found-eq1
returns-then-found-eq1 c =
    let t = c in
    one-message _ _ _ t.find_parts-found.ensures t.if-found-eq1.true _ c.number-id.ensures

pub returns : goal.returns
returns c = other-parts _ _ _ c.find_parts-found.ensures c.if-found-eq1.false
