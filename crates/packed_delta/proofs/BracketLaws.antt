-- Every bracketing of a row of deltas gives the same delta, and that delta does what the row does, one after the other.
-- Assumes nothing.
use Rattle.std.specs.Prelude.{Option, Some, None}
use mathlib.Core.Path.{◌≡◌, refl, ap, sym, ◌∙◌, subst}
use mathlib.Core.List.{List, [], ◌∷◌, ◌++◌}
use Rattle.packed.specs.Assignment.{ConsumerAssignment}
use Rattle.packed_delta.specs.Delta.{AssignmentDelta}
use Rattle.packed_delta.specs.Join.{Proper, ProperDelta, apply, join, Bracketing, one, two, row, joined, apply_all}
use Rattle.packed_delta.proofs.DeltaLaws.{apply-join, apply-proper, join-proper, join-assoc}

abbrev pub AllProper : List AssignmentDelta → Type 0
AllProper [] = Unit {0}
AllProper (d ∷ ds) = ProperDelta d × AllProper ds

pub apply_all-append : (ds es : List AssignmentDelta) (a : ConsumerAssignment) → apply_all (ds ++ es) a ≡ apply_all es (apply_all ds a)
apply_all-append [] es a = refl
apply_all-append (d ∷ ds) es a = apply_all-append ds es (apply d a)

pub apply_all-proper : (ds : List AssignmentDelta) (a : ConsumerAssignment) → Proper a → Proper (apply_all ds a)
apply_all-proper [] a r = r
apply_all-proper (d ∷ ds) a r = apply_all-proper ds (apply d a) (apply-proper d a r)

pub proper-left : (ds es : List AssignmentDelta) → AllProper (ds ++ es) → AllProper ds
proper-left [] es r = tt
proper-left (d ∷ ds) es r = (r.0, proper-left ds es r.1)

pub proper-right : (ds es : List AssignmentDelta) → AllProper (ds ++ es) → AllProper es
proper-right [] es r = r
proper-right (d ∷ ds) es r = proper-right ds es r.1

pub proper-append : (ds es : List AssignmentDelta) → AllProper ds → AllProper es → AllProper (ds ++ es)
proper-append [] es r s = s
proper-append (d ∷ ds) es r s = (r.0, proper-append ds es r.1 s)

pub joined-proper : (t : Bracketing) → AllProper (row t) → ProperDelta (joined t)
joined-proper (one d) r = r.0
joined-proper (two l m) r = join-proper (joined l) (joined m) (joined-proper l (proper-left (row l) (row m) r))

-- the delta that a bracketing gives does what its row does
pub apply-joined : (t : Bracketing) (a : ConsumerAssignment) → AllProper (row t) → Proper a → apply (joined t) a ≡ apply_all (row t) a
apply-joined (one d) a r s = refl
apply-joined (two l m) a r s =
    let p : AllProper (row l) = proper-left (row l) (row m) r in
    apply-join (joined l) (joined m) a (joined-proper l p) s
    ∙ ap (apply (joined m)) (apply-joined l a p s)
    ∙ apply-joined m (apply_all (row l) a) (proper-right (row l) (row m) r) (apply_all-proper (row l) a s)
    ∙ sym (apply_all-append (row l) (row m) a)

-- ---- the row joined from the left, onto what comes before it

abbrev onto : Option AssignmentDelta → AssignmentDelta → AssignmentDelta
onto None e = e
onto (Some d) e = join d e

abbrev after : Option AssignmentDelta → List AssignmentDelta → Option AssignmentDelta
after o [] = o
after o (e ∷ es) = after (Some (onto o e)) es

abbrev ProperBefore : Option AssignmentDelta → Type 0
ProperBefore None = Unit {0}
ProperBefore (Some d) = ProperDelta d

after-append : (o : Option AssignmentDelta) (ds es : List AssignmentDelta) → after o (ds ++ es) ≡ after (after o ds) es
after-append o [] es = refl
after-append o (d ∷ ds) es = after-append (Some (onto o d)) ds es

onto-proper : (o : Option AssignmentDelta) (d : AssignmentDelta) → ProperBefore o → ProperDelta d → ProperDelta (onto o d)
onto-proper None d r s = s
onto-proper (Some c) d r s = join-proper c d r

onto-join : (o : Option AssignmentDelta) (d e : AssignmentDelta) → ProperBefore o → ProperDelta d → join (onto o d) e ≡ onto o (join d e)
onto-join None d e r s = refl
onto-join (Some c) d e r s = join-assoc c d e r s

from-left : (o : Option AssignmentDelta) (t : Bracketing) → ProperBefore o → AllProper (row t) → after o (row t) ≡ Some (onto o (joined t))
from-left o (one d) r s = refl
from-left o (two l m) r s =
    let p : AllProper (row l) = proper-left (row l) (row m) s in
    let q : ProperDelta (joined l) = joined-proper l p in
    after-append o (row l) (row m)
    ∙ ap (λ c. after c (row m)) (from-left o l r p)
    ∙ from-left (Some (onto o (joined l))) m (onto-proper o (joined l) r q) (proper-right (row l) (row m) s)
    ∙ ap Some (onto-join o (joined l) (joined m) r q)

-- two bracketings of one row give the same delta
pub brackets-agree : (t u : Bracketing) → AllProper (row t) → row t ≡ row u → joined t ≡ joined u
brackets-agree t u r e =
    let p : Some (joined t) ≡ Some (joined u) =
    sym (from-left None t tt r) ∙ ap (after None) e ∙ from-left None u tt (subst AllProper e r) in
    cc
