use Rattle.std.proofs.Common.{◌≡◌, ◌≤◌, ℕ, ◌+◌, ◌*◌, List, ◌++◌, length, take}
use Rattle.std.specs.Prelude.{reverse}
use Rattle.self_test.specs.ForProofs.Held.{ComesBack, HasReturned}
use Rattle.self_test.specs.Played.{ArePlayed}
use Rattle.self_test.proofs.back.bring_back.Given as goal

abbrev pub invariant-loop-byte : goal.invariant-loop-byte
invariant-loop-byte l = record {
  place : l.at ≡ l.offset + l.byte-index;
  few : l.again ≤ 12 * l.byte-index;
  back : (past : List ℕ) → HasReturned past l.fn.up l.fn.down → ArePlayed (reverse l.piece ++ past) → l.offset ≡ length past
      → ComesBack past (reverse (take l.byte-index l.piece) ++ past) l.again l.up l.down;
}
