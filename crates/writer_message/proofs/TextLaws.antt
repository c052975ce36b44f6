-- The name of a segment is UTF-8 where the parent is.
--
-- In order: a sequence stands at the front, whatever follows it (`sequence-append`), so a text behind a text that is UTF-8 decides alone
-- (`utf8_append`); bytes of ASCII are UTF-8 (`ascii-utf8`), and a descriptor's are such (`descriptor-ascii`); the name (`topic-utf8`).
-- Assumes nothing.
use Prim.Native.Nat.{ℕ, zero, suc, ◌+◌, ◌-◌, ◌/◌, ◌%◌, ◌≤◌, ◌<◌}
use native.Mathlib.Omega.{arith}
use mathlib.Core.Path.{◌≡◌, refl, sym, ap, ◌∙◌}
use mathlib.Core.Bool.{Bool, true, false, cond, false≢true}
use mathlib.Core.List.{List, [], ◌∷◌, ◌++◌}
use lib.ListN.{length, drop, get_or, take-append-drop}
use lib.Dec.{leb, eqb, ltb}
use borrow.Author.Tests.{leb-true, eqb-false}
use Rattle.slice.specs.BoolLaws.{both_true}
use Rattle.topic_types.specs.declared.KeyRange.{KeyRange}
use Rattle.topic_types.specs.declared.SegmentId.{SegmentId}
use Rattle.slice.specs.Same.{starts_with}
use Rattle.slice.proofs.SameLaws.{same-eq}
use Rattle.utf8.specs.Table.{Span, table, within, fits, sequence_in, sequence_of, text_after, is_utf8}
use Rattle.utf8.proofs.RowLaws.{lead, lead-row, sequence-le}
use Rattle.utf8.proofs.TextLaws.{text-end, ascii-next}
use Rattle.name_parents.specs.Parents.{topic_scheme, is_path, is_parent, path_of}
use Rattle.name_topic.specs.Names.{segment_scheme, hex_digit, hex4, decimal_within, decimal, descriptor, segment_topic}
use Rattle.keyed.proofs.KeyedLaws.{choose}
use Rattle.keyed.proofs.EachLaws.{Each, each_append}

-- ---- a sequence, whatever follows it

fits-append : (row : List Span) (l m : List ℕ) → fits row l ≡ true → fits row (l ++ m) ≡ true
unfolding fits
fits-append [] l m e = refl
fits-append (x ∷ row) [] m e = absurd (false≢true e)
fits-append (x ∷ row) (b ∷ l) m e =
    let p = both_true (within x b) (fits row l) e in rw p.0 (fits-append row l m p.1)

-- a row, not an empty one, that the list fits
record Fitted (rows : List (List Span)) (l : List ℕ) : Type 0 where
  pub k : ℕ
  pub there : k < length rows
  pub some : 0 < length (get_or rows k [])
  pub fit : fits (get_or rows k []) l ≡ true

fitted : (rows : List (List Span)) (l : List ℕ) → (sequence_in rows l ≡ 0 → ⊥) → Fitted rows l
unfolding sequence_in
fitted [] l h = absurd (h refl)
fitted (row ∷ rows) l h = go (fits row l) refl (fitted rows l)
  where
    go : (t : Bool) → fits row l ≡ t → ((sequence_in rows l ≡ 0 → ⊥) → Fitted rows l) → Fitted (row ∷ rows) l
    go true e later =
        let n : length row ≡ 0 → ⊥ = λ z. h (rw e z) in
        record { k = 0; there = omega arith; some = omega arith; fit = e }
    go false e later =
        let r : Fitted rows l = later (λ z. h (rw e z)) in
        record { k = suc r.k; there = omega (arith, r.there); some = r.some; fit = r.fit }

lead-fits : (row : List Span) (b : ℕ) (l : List ℕ) → 0 < length row → fits row (b ∷ l) ≡ true
    → ((lead row).low ≤ b) × (b ≤ (lead row).high) × (fits (drop 1 row) l ≡ true)
unfolding fits
lead-fits [] b l h e = absurd (let z : ⊥ = omega arith in z)
lead-fits (x ∷ row) b l h e =
    let p = both_true (within x b) (fits row l) e in
    let q = both_true (leb x.low b) (leb b x.high) p.0 in
    (leb-true x.low b q.0, leb-true b x.high q.1, p.1)

sequence-append : (b : ℕ) (l m : List ℕ) → (sequence_of (b ∷ l) ≡ 0 → ⊥) → sequence_of (b ∷ (l ++ m)) ≡ sequence_of (b ∷ l)
unfolding sequence_of
sequence-append b l m h =
    let r : Fitted table (b ∷ l) = fitted table (b ∷ l) h in
    let row : List Span = get_or table r.k [] in
    let p = lead-fits row b l r.some r.fit in
    lead-row (b ∷ (l ++ m)) r.k (omega arith) r.there p.0 p.1
    ∙ ap (λ (t : Bool). cond t (length row) 0) (fits-append (drop 1 row) l m p.2 ∙ sym p.2)
    ∙ sym (lead-row (b ∷ l) r.k (omega arith) r.there p.0 p.1)

text-append : (n : ℕ) (l m : List ℕ) → n ≤ length l → text_after n l ≡ true → text_after n (l ++ m) ≡ text_after 0 m
unfolding text_after
text-append zero [] m h e = refl
text-append (suc n) [] m h e = absurd (let z : ⊥ = omega arith in z)
text-append (suc n) (b ∷ l) m h e = text-append n l m (omega arith) e
text-append zero (b ∷ l) m h e =
    go (eqb (sequence_of (b ∷ l)) 0) refl e (text-append (sequence_of (b ∷ l) - 1) l m (omega (arith, sequence-le (b ∷ l))))
  where
    go : (t : Bool) → eqb (sequence_of (b ∷ l)) 0 ≡ t → cond t false (text_after (sequence_of (b ∷ l) - 1) l) ≡ true
        → (text_after (sequence_of (b ∷ l) - 1) l ≡ true → text_after (sequence_of (b ∷ l) - 1) (l ++ m) ≡ text_after 0 m)
        → text_after 0 (b ∷ (l ++ m)) ≡ text_after 0 m
    go true q e later = absurd (false≢true e)
    go false q e later = rw (sequence-append b l m (eqb-false (sequence_of (b ∷ l)) 0 q), q) (later e)

pub utf8_append : (l m : List ℕ) → is_utf8 l ≡ true → is_utf8 (l ++ m) ≡ is_utf8 m
unfolding is_utf8
utf8_append l m e = text-append 0 l m (omega arith) e

-- ---- ASCII

abbrev pub Ascii : ℕ → Type 0
Ascii b = b ≤ 127

pub ascii-utf8 : (l : List ℕ) → Each Ascii l → is_utf8 l ≡ true
ascii-utf8 [] h = text-end [] 0 (omega arith)
ascii-utf8 (b ∷ l) h = ascii-next (b ∷ l) 0 0 (omega arith) h.0 ∙ ascii-utf8 l h.1

hex-ascii : (n : ℕ) → Ascii (hex_digit (n % 16))
hex-ascii n = choose Ascii (ltb (n % 16) 10) (λ t. omega arith) (λ t. omega arith)

hex4-ascii : (v : ℕ) → Each Ascii (hex4 v)
unfolding hex4
hex4-ascii v = (hex-ascii (v / 4096), (hex-ascii (v / 256), (hex-ascii (v / 16), (hex-ascii v, tt))))

digits-ascii : (k v : ℕ) → Each Ascii (decimal_within k v)
unfolding decimal_within
digits-ascii zero v = tt
digits-ascii (suc k) v =
    each_append Ascii (cond (ltb v 10) [] (decimal_within k (v / 10))) ((0x30 + v % 10) ∷ [])
    (choose (Each Ascii) (ltb v 10) (λ t. tt) (λ t. digits-ascii k (v / 10))) (omega arith, tt)

descriptor-ascii : (r : KeyRange) (id : SegmentId) → Each Ascii (descriptor r id)
unfolding descriptor decimal
descriptor-ascii r id =
    let number : List ℕ = 0x2D ∷ decimal id.0 in
    let end : Each Ascii (hex4 r.end ++ number) =
    each_append Ascii (hex4 r.end) number (hex4-ascii r.end) (omega arith, digits-ascii 20 id.0) in
    (omega arith, each_append Ascii (hex4 r.start) (0x2D ∷ (hex4 r.end ++ number)) (hex4-ascii r.start) (omega arith, end))

-- ---- the name of a segment

-- a parent is its scheme and its path
parent-parts : (parent : List ℕ) → is_parent parent ≡ true → topic_scheme ++ path_of parent ≡ parent
unfolding is_parent starts_with
parent-parts parent e =
    let s = (both_true (starts_with topic_scheme parent) (is_path (path_of parent)) e).0 in
    ap (λ (l : List ℕ). l ++ path_of parent) (sym (same-eq _ topic_scheme s)) ∙ take-append-drop 8 parent

pub topic-utf8 : (parent : List ℕ) → is_parent parent ≡ true → is_utf8 parent ≡ true → (r : KeyRange) (id : SegmentId)
    → is_utf8 (segment_topic (path_of parent) r id) ≡ true
unfolding segment_topic
topic-utf8 parent e u r id =
    let path : List ℕ = path_of parent in
    let p : is_utf8 path ≡ true =
    sym (utf8_append topic_scheme path (ascii-utf8 topic_scheme (omega arith))) ∙ ap is_utf8 (parent-parts parent e) ∙ u in
    utf8_append segment_scheme (path ++ descriptor r id) (ascii-utf8 segment_scheme (omega arith))
    ∙ utf8_append path (descriptor r id) p
    ∙ ascii-utf8 (descriptor r id) (descriptor-ascii r id)
