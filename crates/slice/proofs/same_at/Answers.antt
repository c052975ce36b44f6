-- `same_at` meets its contract. The invariant: `alike` of the first i places are alike. The measure is the bytes left of n.
-- Assumes nothing.
use Prim.Native.Nat.{ℕ, ◌+◌, ◌≤◌, ◌<◌}
use native.Mathlib.Omega.{arith}
use mathlib.Core.Path.{◌≡◌, sym, ap, ◌∙◌}
use mathlib.Core.List.{List}
use lib.ListN.{length, drop, get_or, length-drop}
use lib.Dec.{eqb}
use lib.Seq.{length-take-le, get_or-take, get_or-drop}
use Rattle.slice.proofs.SameLaws.{Alike, alike-none, alike_next, alike-differs, alike_end}
use Rattle.slice.proofs.same_at.Invariants.{part}
use Rattle.slice.proofs.same_at.Goals as goal

length_part : (n : ℕ) (s : List ℕ) (at : ℕ) → at + n ≤ length s → length (part n s at) ≡ n
length_part n s at h = length-take-le n (drop at s) (rw length-drop (omega arith))

at_part : (n : ℕ) (s : List ℕ) (at i : ℕ) → i < n → get_or (part n s at) i 0 ≡ get_or s (at + i) 0
at_part n s at i h = rw (get_or-take, get_or-drop)

-- one place more
turn : (n : ℕ) (a b : List ℕ) (at i k : ℕ) → at + n ≤ length a → at + n ≤ length b → i < n → Alike (part n a at) (part n b at) i k
    → (get_or a (at + i) 0 ≡ get_or b (at + i) 0 → Alike (part n a at) (part n b at) (i + 1) (k + 1))
    × ((get_or a (at + i) 0 ≡ get_or b (at + i) 0 → ⊥) → Alike (part n a at) (part n b at) (i + 1) k)
turn n a b at i k ha hb h v =
    let la : length (part n a at) ≡ n = length_part n a at ha in
    let lb : length (part n b at) ≡ n = length_part n b at hb in
    let ea : get_or (part n a at) i 0 ≡ get_or a (at + i) 0 = at_part n a at i h in
    let eb : get_or (part n b at) i 0 ≡ get_or b (at + i) 0 = at_part n b at i h in (
      λ e. alike_next _ _ i k (omega arith) (la ∙ sym lb) v (ea ∙ e ∙ sym eb),
      λ d. alike-differs _ _ i k (omega arith) (la ∙ sym lb) v (λ e. d (sym ea ∙ e ∙ eb)),
    )

pub loop-i-init : goal.loop-i-init
loop-i-init c = (omega arith, alike-none _ _)

pub overflow_add-alike : goal.overflow_add-alike
overflow_add-alike c = omega (arith, c.loop-i.invariant.1.most)

pub loop-i-preserved : goal.loop-i-preserved
loop-i-preserved c =
    let l = c.loop-i in
    let s = c in
    let t = turn s.args.n s.args.a.now s.args.b.now s.args.at l.i l.alike s.requires.0 s.requires.1 (omega arith) l.invariant.1 in
    (omega arith, (elim c.if-a-at.branch [ goal.then-a-at w ↦ rw w.alike-is (t.0 w.if-a-at.true) | goal.else-a-at w ↦ rw w.alike-is (t.1 w.if-a-at.false) ]))

pub returns : goal.returns
returns c =
    let l = c.loop-i in
    let s = c in
    let a = s.args in
    let i : l.i ≡ a.n = omega arith in
    ap (eqb l.alike) (sym i)
    ∙ alike_end _ _ l.i l.alike (omega (arith, length_part a.n a.a.now a.at s.requires.0))
    (omega (arith, length_part a.n a.b.now a.at s.requires.1)) l.invariant.1
