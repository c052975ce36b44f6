-- The first refusal among an assignment's segments, and the segments in id order.
--
-- In order: the first refusal by the first segment (`refusal-fault`, `refusal-duplicate`, `refusal-next`, and back `refusal-none`); the ids
-- that were seen are those of the segments in order so far (`SeenIds`: `seen_start`, `seen_next`, `seen-held`); what a segment that is put in
-- its place keeps (`order-each`, `order-rises`); how long they are and how many (`order-size`, `order-length`, both of `measure-order`);
-- that they are valid (`order-ok`) and fit their widths (`order-fit`); segments that come in id order stay so (`order-rising`,
-- `order-written`), and no id of theirs is refused (`refusal-rising`).
-- Assumes nothing.
use Rattle.std.specs.Prelude.{Option, Some, None}
use Prim.Native.Nat.{ℕ, suc, ◌+◌, ◌*◌, ◌≤◌, ◌<◌}
use native.Mathlib.Omega.{arith}
use mathlib.Core.Path.{◌≡◌, refl, sym, ap, ◌∙◌, subst}
use mathlib.Core.Bool.{Bool, true, false, cond, true≢false}
use mathlib.Core.List.{List, [], ◌∷◌, ◌++◌, map, append_assoc, append-nil}
use lib.ListN.{length}
use lib.Dec.{ltb, eqb}
use borrow.Author.Tests.{le-leb, le-ltb, ne_eqb}
use Rattle.refusal.specs.declared.Refusal.{Refusal}
use Rattle.refusal.specs.declared.Refusal.TheVariants.{DuplicateSegment}
use Rattle.wire_readers.specs.Messages.{WireSegment}
use Rattle.keyed.specs.Keyed.{or_else, is_some, self, Above, Rising, find, holds, insert}
use Rattle.keyed.proofs.KeyedLaws.{choose, find-insert, rising-insert}
use Rattle.packed.specs.Assignment.{AssignedSegment, id_of, size_segment, size_segments, ok_segment, ok_from}
use Rattle.packed.proofs.AssignmentLaws.{ok-segment, ok-head, ok-tail}
use Rattle.packed.proofs.RoundLaws.{FitSegment, FitSegments}
use Rattle.intake_content.specs.Content.{wire_id, bucket_of, segment_fault, duplicate_fault, first_refusal, assigned_segment, in_id_order}
pub use Rattle.intake_content.specs.Passing.{Passing}
use Rattle.keyed.proofs.EachLaws.{Each, each-insert}
use Rattle.intake_content.proofs.SoundLaws.{or-both, if_none, length-map, segment-valid, segment-fit}
use Rattle.intake_content.proofs.WideLaws.{WideSegment}

-- ---- the first refusal

-- a first segment that passes, and those behind it
pub record First (parent seen : List ℕ) (w : WireSegment) (ws : List WireSegment) : Type 0 where
  pub passes : segment_fault parent w ≡ None
  pub new : holds self w.segment_id seen ≡ false
  pub others : first_refusal parent (w.segment_id ∷ seen) ws ≡ None

module _ (parent seen : List ℕ) (w : WireSegment) (ws : List WireSegment) where
  pub refusal-fault : (x : Refusal) → segment_fault parent w ≡ Some x → first_refusal parent seen (w ∷ ws) ≡ Some x
  unfolding first_refusal
  refusal-fault x e = rw e

  pub refusal-duplicate : segment_fault parent w ≡ None → holds self w.segment_id seen ≡ true
      → first_refusal parent seen (w ∷ ws) ≡ Some (DuplicateSegment (wire_id w))
  unfolding first_refusal
  refusal-duplicate e h = simp (e, h)

  pub refusal-next : segment_fault parent w ≡ None → holds self w.segment_id seen ≡ false
      → first_refusal parent seen (w ∷ ws) ≡ first_refusal parent (w.segment_id ∷ seen) ws
  unfolding first_refusal
  refusal-next e h = simp (e, h)

  pub refusal-none : first_refusal parent seen (w ∷ ws) ≡ None → First parent seen w ws
  unfolding first_refusal
  refusal-none e =
      let later : Option Refusal = first_refusal parent (w.segment_id ∷ seen) ws in
      let p = or-both (segment_fault parent w) (or_else (duplicate_fault seen w) later) e in
      let q = or-both (duplicate_fault seen w) later p.1 in
      record {
        passes = p.0;
        new = (if_none (holds self w.segment_id seen) (DuplicateSegment (wire_id w)) None q.0).0;
        others = q.1;
      }

-- ---- the ids that were seen

abbrev pub SeenIds : List ℕ → List AssignedSegment → Type 0
SeenIds seen done = (k : ℕ) → holds self k seen ≡ holds id_of k done

pub seen_start : SeenIds [] []
seen_start k = refl

module _ (seen : List ℕ) (done : List AssignedSegment) (s : SeenIds seen done) (w : WireSegment) where
  pub seen_next : SeenIds (w.segment_id ∷ seen) (insert id_of (assigned_segment w) done)
  unfolding assigned_segment
  seen_next k = go (eqb k w.segment_id) ∙ sym (ap is_some (find-insert id_of k (assigned_segment w) done))
    where
      go : (t : Bool)
          → is_some (cond t (Some w.segment_id) (find self k seen)) ≡ is_some (cond t (Some (assigned_segment w)) (find id_of k done))
      go true = refl
      go false = s k

  pub seen-held : holds id_of (assigned_segment w).segment_id done ≡ holds self w.segment_id seen
  unfolding assigned_segment
  seen-held = sym (s w.segment_id)

-- ---- what every place keeps

pub order-each : (P : AssignedSegment → Type 0) (done : List AssignedSegment) (ws : List WireSegment)
    → Each P done → Each P (map assigned_segment ws) → Each P (in_id_order done ws)
unfolding in_id_order
order-each P done [] d h = d
order-each P done (w ∷ ws) d h =
    order-each P (insert id_of (assigned_segment w) done) ws (each-insert P id_of (assigned_segment w) done h.0 d) h.1

pub order-rises : (done : List AssignedSegment) (ws : List WireSegment) → Rising id_of done → Rising id_of (in_id_order done ws)
unfolding in_id_order
order-rises done [] r = r
order-rises done (w ∷ ws) r = order-rises (insert id_of (assigned_segment w) done) ws (rising-insert id_of (assigned_segment w) done r)

-- ---- how many, and how long

-- a number m of a list that is the sum of a number c of each entry
module _ (m : List AssignedSegment → ℕ) (c : AssignedSegment → ℕ) (nil : m [] ≡ 0)
    (cons : (g : AssignedSegment) (gs : List AssignedSegment) → m (g ∷ gs) ≡ c g + m gs) where
  measure-insert : (g : AssignedSegment) (gs : List AssignedSegment) → holds id_of g.segment_id gs ≡ false
      → m (insert id_of g gs) ≡ c g + m gs
  measure-insert g [] h = cons g []
  measure-insert g (y ∷ ys) h =
      choose (λ (l : List AssignedSegment). m l ≡ c g + m (y ∷ ys)) (ltb g.segment_id y.segment_id) (λ t. cons g (y ∷ ys))
      (λ t. choose (λ (l : List AssignedSegment). m l ≡ c g + m (y ∷ ys)) (eqb g.segment_id y.segment_id)
      (λ u. absurd (true≢false (rw u at h)))
      (λ u. let i : m (insert id_of g ys) ≡ c g + m ys = measure-insert g ys (rw u at h) in
      omega (arith, cons y (insert id_of g ys), cons y ys)))

  pub measure-order : (parent seen : List ℕ) (done : List AssignedSegment) (ws : List WireSegment) → SeenIds seen done
      → first_refusal parent seen ws ≡ None → m (in_id_order done ws) ≡ m done + m (map assigned_segment ws)
  unfolding in_id_order
  measure-order parent seen done [] s e = omega arith
  measure-order parent seen done (w ∷ ws) s e =
      let f : First parent seen w ws = refusal-none parent seen w ws e in
      let g : AssignedSegment = assigned_segment w in
      let i : m (insert id_of g done) ≡ c g + m done = measure-insert g done (seen-held seen done s w ∙ f.new) in
      let r = measure-order parent (w.segment_id ∷ seen) (insert id_of g done) ws (seen_next seen done s w) f.others in
      omega (arith, cons g (map assigned_segment ws))

module _ (parent : List ℕ) (ws : List WireSegment) (e : first_refusal parent [] ws ≡ None) where
  pub order-size : size_segments (in_id_order [] ws) ≡ size_segments (map assigned_segment ws)
  unfolding size_segments
  order-size = omega (arith, measure-order size_segments size_segment refl (λ g gs. refl) parent [] [] ws seen_start e)

  pub order-length : length (in_id_order [] ws) ≡ length ws
  order-length =
      let n : length (map assigned_segment ws) ≡ length ws = length-map assigned_segment ws in
      omega (arith, measure-order length (λ g. 1) refl (λ g gs. omega arith) parent [] [] ws seen_start e)

-- ---- they are valid

abbrev pub OkSegment : AssignedSegment → Type 0
OkSegment g = ok_segment g ≡ true

above-ok : (low : ℕ) (gs : List AssignedSegment) → ok_from (suc low) gs ≡ true → Above id_of low gs
above-ok low [] e = tt
above-ok low (g ∷ gs) e = omega (arith, ok-head (suc low) g gs e)

-- valid segments whose ids rise, and what both say
pub ok-rises : (low : ℕ) (gs : List AssignedSegment) → ok_from low gs ≡ true → Rising id_of gs
ok-rises low [] e = tt
ok-rises low (g ∷ gs) e = let t = ok-tail low g gs e in (above-ok g.segment_id gs t, ok-rises (suc g.segment_id) gs t)

ok-each : (low : ℕ) (gs : List AssignedSegment) → ok_from low gs ≡ true → Each OkSegment gs
ok-each low [] e = tt
ok-each low (g ∷ gs) e = (ok-segment low g gs e, ok-each (suc g.segment_id) gs (ok-tail low g gs e))

rising-ok : (low : ℕ) (g : AssignedSegment) (gs : List AssignedSegment) → low ≤ g.segment_id → Each OkSegment (g ∷ gs) → Rising id_of (g ∷ gs)
    → ok_from low (g ∷ gs) ≡ true
unfolding ok_from
rising-ok low g [] h o r = simp (o.0, le-leb low g.segment_id h)
rising-ok low g (k ∷ gs) h o r = simp (o.0, le-leb low g.segment_id h) (rising-ok (suc g.segment_id) k gs (omega arith) o.1 r.1)

pub rises-ok : (gs : List AssignedSegment) → Each OkSegment gs → Rising id_of gs → ok_from 0 gs ≡ true
unfolding ok_from
rises-ok [] o r = refl
rises-ok (g ∷ gs) o r = rising-ok 0 g gs (omega arith) o r

pub segments-valid : (parent seen : List ℕ) (ws : List WireSegment) → first_refusal parent seen ws ≡ None → Each OkSegment (map assigned_segment ws)
segments-valid parent seen [] e = tt
segments-valid parent seen (w ∷ ws) e =
    let f : First parent seen w ws = refusal-none parent seen w ws e in
    (segment-valid parent w f.passes, segments-valid parent (w.segment_id ∷ seen) ws f.others)

pub order-ok-from : (parent seen : List ℕ) (done : List AssignedSegment) (ws : List WireSegment) → ok_from 0 done ≡ true
    → first_refusal parent seen ws ≡ None → ok_from 0 (in_id_order done ws) ≡ true
order-ok-from parent seen done ws o e =
    rises-ok (in_id_order done ws) (order-each OkSegment done ws (ok-each 0 done o) (segments-valid parent seen ws e))
    (order-rises done ws (ok-rises 0 done o))

pub order-ok : (parent : List ℕ) (ws : List WireSegment) → first_refusal parent [] ws ≡ None → ok_from 0 (in_id_order [] ws) ≡ true
unfolding ok_from
order-ok parent ws e = order-ok-from parent [] [] ws refl e

-- ---- they fit their widths

pub count-least : (gs : List AssignedSegment) → 14 * length gs ≤ size_segments gs
unfolding size_segments size_segment
count-least [] = omega arith
count-least (g ∷ gs) = omega (arith, count-least gs)

each_fits : (gs : List AssignedSegment) → Each FitSegment gs → FitSegments gs
each_fits [] f = tt
each_fits (g ∷ gs) f = (f.0, each_fits gs f.1)

-- segments of few bytes have few buckets
segments-fit : (parent seen : List ℕ) (ws : List WireSegment) → first_refusal parent seen ws ≡ None → Each WideSegment ws
    → size_segments (map assigned_segment ws) ≤ 2038 → Each FitSegment (map assigned_segment ws)
unfolding size_segments size_segment assigned_segment
segments-fit parent seen [] e v h = tt
segments-fit parent seen (w ∷ ws) e v h =
    let f : First parent seen w ws = refusal-none parent seen w ws e in
    let n : length (map bucket_of w.bucket_ranges) ≡ length w.bucket_ranges = length-map bucket_of w.bucket_ranges in
    (segment-fit parent w f.passes v.0 (omega arith), segments-fit parent (w.segment_id ∷ seen) ws f.others v.1 (omega arith))

pub order-fit : (parent : List ℕ) (ws : List WireSegment) → first_refusal parent [] ws ≡ None → Each WideSegment ws
    → size_segments (in_id_order [] ws) ≤ 2038 → FitSegments (in_id_order [] ws)
order-fit parent ws e v h =
    each_fits (in_id_order [] ws) (order-each FitSegment [] ws tt (segments-fit parent [] ws e v (omega (arith, order-size parent ws e))))

-- ---- segments that come in id order

rising-below : (y : AssignedSegment) (ys : List AssignedSegment) (g : AssignedSegment) (gs : List AssignedSegment)
    → Rising id_of (y ∷ (ys ++ (g ∷ gs))) → y.segment_id < g.segment_id
rising-below y [] g gs r = r.0
rising-below y (z ∷ ys) g gs r = omega (arith, rising-below z ys g gs r.1)

-- above all others a segment goes behind them
insert-last : (g : AssignedSegment) (done gs : List AssignedSegment) → Rising id_of (done ++ (g ∷ gs))
    → insert id_of g done ≡ done ++ (g ∷ [])
insert-last g [] gs r = refl
insert-last g (y ∷ ys) gs r =
    let h : y.segment_id < g.segment_id = rising-below y ys g gs r in
    rw (
      le-ltb g.segment_id y.segment_id (omega arith),
      ne_eqb g.segment_id y.segment_id (λ q. omega arith),
      insert-last g ys gs r.1,
    )

order-behind : (done : List AssignedSegment) (ws : List WireSegment) → Rising id_of (done ++ map assigned_segment ws)
    → in_id_order done ws ≡ done ++ map assigned_segment ws
unfolding in_id_order
order-behind done [] r = sym (append-nil done)
order-behind done (w ∷ ws) r =
    let g : AssignedSegment = assigned_segment w in
    let gs : List AssignedSegment = map assigned_segment ws in
    let e : (done ++ (g ∷ [])) ++ gs ≡ done ++ (g ∷ gs) = append_assoc done (g ∷ []) gs in
    ap (λ (l : List AssignedSegment). in_id_order l ws) (insert-last g done gs r)
    ∙ order-behind (done ++ (g ∷ [])) ws (subst (Rising id_of) (sym e) r)
    ∙ e

pub order-rising : (ws : List WireSegment) → ok_from 0 (map assigned_segment ws) ≡ true → in_id_order [] ws ≡ map assigned_segment ws
order-rising ws o = order-behind [] ws (ok-rises 0 (map assigned_segment ws) o)

-- wire segments that stand for valid ones, in id order
pub order-written : (f : AssignedSegment → WireSegment) → ((g : AssignedSegment) → assigned_segment (f g) ≡ g) → (gs : List AssignedSegment)
    → ok_from 0 gs ≡ true → in_id_order [] (map f gs) ≡ gs
order-written f h gs o =
    let e : map assigned_segment (map f gs) ≡ gs = back gs in
    order-rising (map f gs) (ap (ok_from 0) e ∙ o) ∙ e
  where
    back : (l : List AssignedSegment) → map assigned_segment (map f l) ≡ l
    back [] = refl
    back (g ∷ l) = let p = back l in cc (h g)

-- segments that pass, whose ids rise from low on, where none from low on was seen
refusal-above : (parent seen : List ℕ) (low : ℕ) (ws : List WireSegment) → ((k : ℕ) → low ≤ k → holds self k seen ≡ false)
    → Each (Passing parent) ws → ok_from low (map assigned_segment ws) ≡ true → first_refusal parent seen ws ≡ None
unfolding first_refusal assigned_segment
refusal-above parent seen low [] n p o = refl
refusal-above parent seen low (w ∷ ws) n p o =
    let g : AssignedSegment = assigned_segment w in
    let gs : List AssignedSegment = map assigned_segment ws in
    let h : low ≤ w.segment_id = ok-head low g gs o in
    refusal-next parent seen w ws p.0 (n w.segment_id h)
    ∙ refusal-above parent (w.segment_id ∷ seen) (suc w.segment_id) ws
    (λ k l. rw (ne_eqb k w.segment_id (λ q. omega arith)) (n k (omega arith))) p.1 (ok-tail low g gs o)

pub refusal-rising : (parent : List ℕ) (ws : List WireSegment) → Each (Passing parent) ws → ok_from 0 (map assigned_segment ws) ≡ true
    → first_refusal parent [] ws ≡ None
refusal-rising parent ws p o = refusal-above parent [] 0 ws (λ k l. refl) p o
