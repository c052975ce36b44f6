-- Public: published values of MurmurHash3_x86_32 with seed 0, as one proved table, by computation.
--
-- Those of "test", "Hello, world!" and of the fox stand in Wikipedia's article on MurmurHash; the others in a list of
-- test vectors that many ports share (Ian Boyd's, on Stack Overflow).
-- Assumes nothing.
use Rattle.std.specs.Prelude.{◌≡◌, ℕ, List, [], ◌∷◌, refl}
use Rattle.key_murmur3.specs.Words.{wrapping_add, wrapping_mul, xor, rotate_left, xor_shift}
use Rattle.key_murmur3.specs.Murmur3.{low_first, scramble, mix, blocks, fmix, murmur3}

-- "Hello, world!"
abbrev pub hello_world : List ℕ
hello_world = 0x48 ∷ 0x65 ∷ 0x6c ∷ 0x6c ∷ 0x6f ∷ 0x2c ∷ 0x20 ∷ 0x77 ∷ 0x6f ∷ 0x72 ∷ 0x6c ∷ 0x64 ∷ 0x21 ∷ []

-- "The quick brown fox jumps over the lazy dog"
abbrev pub quick_fox : List ℕ
quick_fox =
    0x54 ∷ 0x68 ∷ 0x65 ∷ 0x20 ∷ 0x71 ∷ 0x75 ∷ 0x69 ∷ 0x63 ∷ 0x6b ∷ 0x20 ∷ 0x62 ∷ 0x72 ∷ 0x6f ∷ 0x77 ∷ 0x6e ∷ 0x20 ∷ 0x66 ∷ 0x6f ∷
    0x78 ∷ 0x20 ∷ 0x6a ∷ 0x75 ∷ 0x6d ∷ 0x70 ∷ 0x73 ∷ 0x20 ∷ 0x6f ∷ 0x76 ∷ 0x65 ∷ 0x72 ∷ 0x20 ∷ 0x74 ∷ 0x68 ∷ 0x65 ∷ 0x20 ∷ 0x6c ∷
    0x61 ∷ 0x7a ∷ 0x79 ∷ 0x20 ∷ 0x64 ∷ 0x6f ∷ 0x67 ∷ []

pub record Rows : Type 0 where
  -- no bytes
  pub empty : murmur3 [] ≡ 0x00000000
  -- one to four bytes: every length of a tail, and a block alone
  pub tail-one : murmur3 (0x21 ∷ []) ≡ 0x72661cf4
  pub tail-two : murmur3 (0x21 ∷ 0x43 ∷ []) ≡ 0xa0f7b07a
  pub tail-three : murmur3 (0x21 ∷ 0x43 ∷ 0x65 ∷ []) ≡ 0x7e4a8634
  pub block : murmur3 (0x21 ∷ 0x43 ∷ 0x65 ∷ 0x87 ∷ []) ≡ 0xf55b516b
  -- bytes of 0, and of 255
  pub zero_one : murmur3 (0x00 ∷ []) ≡ 0x514e28b7
  pub zero-two : murmur3 (0x00 ∷ 0x00 ∷ []) ≡ 0x30f4c306
  pub zero-three : murmur3 (0x00 ∷ 0x00 ∷ 0x00 ∷ []) ≡ 0x85f0b427
  pub zero-four : murmur3 (0x00 ∷ 0x00 ∷ 0x00 ∷ 0x00 ∷ []) ≡ 0x2362f9de
  pub all_set : murmur3 (0xff ∷ 0xff ∷ 0xff ∷ 0xff ∷ []) ≡ 0x76293b50
  -- "abc", "test", "Hello, world!"
  pub abc : murmur3 (0x61 ∷ 0x62 ∷ 0x63 ∷ []) ≡ 0xb3dd93fa
  pub test : murmur3 (0x74 ∷ 0x65 ∷ 0x73 ∷ 0x74 ∷ []) ≡ 0xba6bd213
  pub hello-world : murmur3 hello_world ≡ 0xc0363e43
  pub quick-fox : murmur3 quick_fox ≡ 0x2e4ff723

pub rows : Rows
unfolding wrapping_add wrapping_mul xor rotate_left xor_shift low_first scramble mix blocks fmix murmur3
rows = record {
  empty = refl;
  tail-one = refl;
  tail-two = refl;
  tail-three = refl;
  block = refl;
  zero_one = refl;
  zero-two = refl;
  zero-three = refl;
  zero-four = refl;
  all_set = refl;
  abc = refl;
  test = refl;
  hello-world = refl;
  quick-fox = refl;
}
