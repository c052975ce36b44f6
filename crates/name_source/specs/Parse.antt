-- Public: the segment name reader `SegmentSource::new` and the parent of a name (01, Segment name: 7, 18 without prefix
-- or slash, 12, 18, 9, 19).
--
-- `parse_segment_topic` is the Rust's `parse_segment_topic`: the text behind `segment://` is split at its last '/' into the parent's path and a
-- descriptor, the start and the end as four lower-case hex digits each and the id in decimal without leading zeros, joined by '-'.
-- Assumes nothing.
use Rattle.std.specs.Prelude.{ℕ, ◌+◌, ◌-◌, Bool, false, cond, ◌&&◌, ◌||◌, List, [], ◌∷◌, ◌++◌, length, take, drop, get_or, eqb, Option, Some, None, Result, Ok, Err}
use Rattle.topic_types.specs.declared.SegmentId.{SegmentId}
use Rattle.topic_types.specs.declared.KeyRange.{KeyRange}
use Rattle.topic_types.specs.KeyRanges.{new_key_range}
use Rattle.refusal.specs.declared.Refusal.{Refusal}
use Rattle.refusal.specs.declared.Refusal.TheVariants.{InvalidUtf8, InvalidParent, InvalidSegment, SegmentIdMismatch}
use Rattle.refusal.specs.Steps.{◌>>◌, ◌>>=◌, refuse_unless, take_range}
use Rattle.slice.specs.Same.{starts_with}
use Rattle.utf8.specs.Table.{is_utf8}
use Rattle.name_parents.specs.Classes.{is_slash, is_dash}
use Rattle.name_parents.specs.Parents.{topic_scheme, is_path}
use Rattle.name_topic.specs.Names.{segment_scheme, segment_scheme_size}
use Rattle.name_topic.specs.Build.{NameOutcome, unwritten, written}
use Rattle.name_digits.specs.Digits.{decimal_value, hex_value, is_hex_word, is_segment_id}
use Rattle.topic_types.specs.declared.KeyRangeError.{KeyRangeError}
use Rattle.name_source.specs.declared.SegmentSource.{SegmentSource}

-- ---- the last '/'

unfoldable pub has_slash : List ℕ → Bool
has_slash [] = false
has_slash (b ∷ l) = is_slash b || has_slash l

-- the bytes before the last '/', where there is one
unfoldable pub before_last : List ℕ → List ℕ
before_last [] = []
before_last (b ∷ l) = cond (has_slash l) (b ∷ before_last l) []

-- the place of the last '/'
unfoldable pub last_slash : List ℕ → Option ℕ
last_slash l = cond (has_slash l) (Some (length (before_last l))) None

-- ---- the descriptor: ssss-eeee-id

abbrev pub start_part : List ℕ → List ℕ
start_part d = take 4 d

abbrev pub end_part : List ℕ → List ℕ
end_part d = take 4 (drop 5 d)

abbrev pub id_part : List ℕ → List ℕ
id_part d = drop 10 d

unfoldable pub is_descriptor : List ℕ → Bool
is_descriptor d =
    is_hex_word (start_part d)
    && (is_dash (get_or d 4 0) && (is_hex_word (end_part d) && (is_dash (get_or d 9 0) && is_segment_id (id_part d))))

-- ---- the name

-- A name is answered as the place where its path ends, its range and its id.
unfoldable pub parse_segment_topic : List ℕ → Result (ℕ × KeyRange × SegmentId) Refusal
parse_segment_topic t = do
  refuse_unless Err (starts_with segment_scheme t && has_slash (drop segment_scheme_size t)) InvalidSegment  -- 18 without prefix or slash
  let path = before_last (drop segment_scheme_size t)
  let d = drop (length path + 1) (drop segment_scheme_size t)
  refuse_unless Err (is_path path) InvalidParent  -- 12
  refuse_unless Err (is_descriptor d) InvalidSegment  -- 18
  range ← take_range Err (new_key_range (hex_value (start_part d)) (hex_value (end_part d)))  -- 9
  Ok (segment_scheme_size + length path, range, record { 0 = decimal_value (id_part d) })

unfoldable pub parse_text : List ℕ → Result (ℕ × KeyRange × SegmentId) Refusal
parse_text t = do
  refuse_unless Err (is_utf8 t) InvalidUtf8  -- 7
  parse_segment_topic t  -- 18, 12, 18, 9

-- what was read of a name: the place where its path ends, its range and its id
pub record ReadName : Type 0 where
  pub path_end : ℕ
  pub range : KeyRange
  pub id : SegmentId

abbrev pub take_name : {R : Type 0} → (Refusal → R) → Result (ℕ × KeyRange × SegmentId) Refusal → (ReadName → R) → R
take_name refuse (Err x) rest = refuse x
take_name refuse (Ok (path_end, range, id)) rest = rest (record { path_end = path_end; range = range; id = id })

-- `SegmentSource::new`
unfoldable pub segment_source : SegmentId → List ℕ → Result SegmentSource Refusal
segment_source id t = do
  name ← take_name Err (parse_text t)  -- 7, 18, 12, 18, 9
  refuse_unless Err (eqb name.id.0 id.0) (SegmentIdMismatch id name.id)  -- 19
  Ok (record { segment_id = id; key_range = name.range })

-- `SegmentSource::parent_topic` of a name: `topic://` and the path
unfoldable pub parent_topic : (t out : List ℕ) → NameOutcome
parent_topic t out = do
  name ← take_name (unwritten out) (parse_text t)  -- 7, 18, 12, 18, 9
  written (topic_scheme ++ take (name.path_end - segment_scheme_size) (drop segment_scheme_size t)) out  -- 21

-- ---- Internal: the tails of `segment_source` and `parent_topic` behind the name, which laws cite

unfoldable pub source_stage : SegmentId → Result (ℕ × KeyRange × SegmentId) Refusal → Result SegmentSource Refusal
source_stage id x = do
  name ← take_name Err x
  refuse_unless Err (eqb name.id.0 id.0) (SegmentIdMismatch id name.id)
  Ok (record { segment_id = id; key_range = name.range })

unfoldable pub parent_outcome : (t out : List ℕ) → Result (ℕ × KeyRange × SegmentId) Refusal → NameOutcome
parent_outcome t out x = do
  name ← take_name (unwritten out) x
  written (topic_scheme ++ take (name.path_end - segment_scheme_size) (drop segment_scheme_size t)) out

-- ---- Internal: the tails of `parse_segment_topic`, from 12, 18 and 9 on, which a helper's contract and laws cite

unfoldable pub range_stage : (path_end id : ℕ) → Result KeyRange KeyRangeError → Result (ℕ × KeyRange × SegmentId) Refusal
range_stage path_end id x = do
  range ← take_range Err x
  Ok (path_end, range, record { 0 = id })

unfoldable pub descriptor_stage : (path_end : ℕ) (d : List ℕ) → Result (ℕ × KeyRange × SegmentId) Refusal
descriptor_stage path_end d = do
  refuse_unless Err (is_descriptor d) InvalidSegment
  range_stage path_end (decimal_value (id_part d)) (new_key_range (hex_value (start_part d)) (hex_value (end_part d)))

-- p is the text behind `segment://`
unfoldable pub parent_stage : (p : List ℕ) → Result (ℕ × KeyRange × SegmentId) Refusal
parent_stage p = do
  refuse_unless Err (is_path (before_last p)) InvalidParent
  descriptor_stage (segment_scheme_size + length (before_last p)) (drop (length (before_last p) + 1) p)
