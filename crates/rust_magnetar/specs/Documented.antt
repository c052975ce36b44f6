-- Internal: no claim cites it; whoever reads the claims may skip it.
--
-- The examples that the documentation of the Rust's standard library gives for what is defined here, by computation.
-- Assumes nothing.
use Rattle.std.specs.Prelude.{◌≡◌, ℕ, true, false, List, [], ◌∷◌, length, Some, None}
use Rattle.std.specs.Prelude.{refl}
use Rattle.rust_magnetar.specs.Text.{Text}
use Rattle.rust_magnetar.specs.Order.{number-cmp, str-cmp, Less, Greater}
use Rattle.rust_magnetar.specs.Numerals.{display, zero-padded, lower-hex, lower-hex-4, u32-from-str-radix, parse-u64}
use Rattle.rust_magnetar.specs.BTree.{Entry, BTreeSet-insert, BTreeSet-is-new, BTreeSet-contains, BTreeSet-remove, BTreeMap-get, BTreeMap-insert}

abbrev pub set : List ℕ
set = BTreeSet-insert number-cmp 2 []

abbrev pub map : List (Entry ℕ Text)
map = BTreeMap-insert number-cmp 37 (0x62 ∷ []) (BTreeMap-insert number-cmp 37 (0x61 ∷ []) [])

pub record Documented : Type 0 where
  -- BTreeSet::insert: assert_eq!(set.insert(2), true); assert_eq!(set.insert(2), false); assert_eq!(set.len(), 1);
  pub insert-first : BTreeSet-is-new number-cmp 2 [] ≡ true
  pub insert-again : BTreeSet-is-new number-cmp 2 set ≡ false
  pub insert-once : length (BTreeSet-insert number-cmp 2 set) ≡ 1
  -- BTreeSet::remove: assert_eq!(set.remove(&2), true); assert_eq!(set.remove(&2), false);
  pub remove_first : BTreeSet-contains number-cmp 2 set ≡ true
  pub remove-again : BTreeSet-contains number-cmp 2 (BTreeSet-remove number-cmp 2 set) ≡ false
  -- BTreeMap::insert: assert_eq!(map.insert(37, "a"), None); map.insert(37, "b"); assert_eq!(map.insert(37, "c"),
  -- Some("b")); assert_eq!(map[&37], "c");
  pub map-before : BTreeMap-get number-cmp 37 map ≡ Some (0x62 ∷ [])
  pub map-after : BTreeMap-get number-cmp 37 (BTreeMap-insert number-cmp 37 (0x63 ∷ []) map) ≡ Some (0x63 ∷ [])
  -- u64::from_str: assert_eq!(u64::from_str("+10"), Ok(10)); assert!(u64::from_str("1 ").is_err());
  pub parse-sign : parse-u64 (0x2B ∷ 0x31 ∷ 0x30 ∷ []) ≡ Some 10
  pub parse-space : parse-u64 (0x31 ∷ 0x20 ∷ []) ≡ None
  -- from_str_radix: assert_eq!(u32::from_str_radix("A", 16), Ok(10));
  pub radix-letter : u32-from-str-radix 16 (0x41 ∷ []) ≡ Some 10
  -- "A format like {:08} would yield 00000001 for the integer 1"
  pub padded : zero-padded 8 (display 1) ≡ 0x30 ∷ 0x30 ∷ 0x30 ∷ 0x30 ∷ 0x30 ∷ 0x30 ∷ 0x30 ∷ 0x31 ∷ []
  -- LowerHex: assert_eq!(format!("{y:x}"), "2a") of 42
  pub hex : lower-hex 42 ≡ 0x32 ∷ 0x61 ∷ []
  -- no example there: the limits of u64, a sign alone, {:04x} of 255 and 65,536, and a prefix
  pub parse-largest : parse-u64 (display 0xFFFFFFFFFFFFFFFF) ≡ Some 0xFFFFFFFFFFFFFFFF
  pub parse-larger : parse-u64 (display 0x10000000000000000) ≡ None
  pub sign-alone : parse-u64 (0x2B ∷ []) ≡ None
  pub hex-4 : lower-hex-4 255 ≡ 0x30 ∷ 0x30 ∷ 0x66 ∷ 0x66 ∷ []
  pub hex-5 : lower-hex-4 65536 ≡ 0x31 ∷ 0x30 ∷ 0x30 ∷ 0x30 ∷ 0x30 ∷ []
  pub prefix-less : str-cmp (0x61 ∷ []) (0x61 ∷ 0x62 ∷ []) ≡ Less
  pub byte-greater : str-cmp (0x62 ∷ []) (0x61 ∷ 0x62 ∷ []) ≡ Greater

pub documented : Documented
documented =
    record {
      insert-first = refl;
      insert-again = refl;
      insert-once = refl;
      remove_first = refl;
      remove-again = refl;
      map-before = refl;
      map-after = refl;
      parse-sign = refl;
      parse-space = refl;
      radix-letter = refl;
      padded = refl;
      hex = refl;
      parse-largest = refl;
      parse-larger = refl;
      sign-alone = refl;
      hex-4 = refl;
      hex-5 = refl;
      prefix-less = refl;
      byte-greater = refl;
    }
