-- The sorts of bytes.
use Rattle.std.proofs.Common.{ℕ, ◌≡◌, ◌<◌, ◌≤◌, arith}
use Rattle.std.proofs.lemmas.Bool.{lt-ltb, le-ltb}
use Rattle.std.proofs.lemmas.Bool.Decides.{nat_tests}
use Rattle.midi1_bytes.specs.Sorts.{one, two, data_byte, voice_status, sort_of}

pub data_is : (b : ℕ) → b < 128 → sort_of b ≡ data_byte
unfolding sort_of
data_is b h = rw (lt-ltb b 0x80 h)

pub data_below : (b : ℕ) → sort_of b ≡ data_byte → b < 128
unfolding sort_of
data_below b h = grind (arith, nat_tests)

-- 8n to Bn have two data bytes, Cn and Dn one, En two
pub low_two : (b : ℕ) → 0x80 ≤ b → b < 0xc0 → sort_of b ≡ voice_status two
unfolding sort_of
low_two b l h = rw (le-ltb b 0x80 l, lt-ltb b 0xc0 h)

pub one_status : (b : ℕ) → 0xc0 ≤ b → b < 0xe0 → sort_of b ≡ voice_status one
unfolding sort_of
one_status b l h = rw (le-ltb b 0x80 (omega arith), le-ltb b 0xc0 l, lt-ltb b 0xe0 h)

pub bend_status : (b : ℕ) → 0xe0 ≤ b → b < 0xf0 → sort_of b ≡ voice_status two
unfolding sort_of
bend_status b l h = rw (le-ltb b 0x80 (omega arith), le-ltb b 0xc0 (omega arith), le-ltb b 0xe0 l, lt-ltb b 0xf0 h)
