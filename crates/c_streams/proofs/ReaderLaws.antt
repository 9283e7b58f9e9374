-- Bytes that a reader takes one after another.
use Rattle.std.proofs.Common.{◌≡◌, ◌∷◌, [], ℕ, List, refl, ap}
use Rattle.std.specs.Prelude.{Ok, Err}
use Rattle.c_answers.specs.Outcomes.{items_of}
use Rattle.c_answers.specs.declared.block.Block.{Block}
use Rattle.c_answers.specs.declared.outcome.ByteOutcome.{ByteOutcome}
use Rattle.c_answers.specs.declared.status.Status.{Status}
use Rattle.c_answers.proofs.BlockLaws as laws
use Rattle.c_streams.specs.Readers.{Reader, Reads, RefusesByte, TakesByte, taking_by, written_by}

-- a buffer that was large enough stays so
abbrev pub Keeps : {Held : Type 0} → Reader Held → Held → Held → Type 0
Keeps reader held now = reader.most now ≡ reader.most held

abbrev pub AreSoFar : {Held : Type 0} → Reader Held → Held → ℕ → List ℕ → List ℕ → List ByteOutcome → Block → ℕ → Held → List ℕ
    → List ByteOutcome → Type 0
AreSoFar reader held offset bytes old old_items block next now buffer items =
    laws.AreSoFar (taking_by reader) (Keeps reader held) held offset bytes old old_items block next now buffer items

module _ {Held : Type 0} (reader : Reader Held) (now : Held) (next byte : ℕ) (own lent rest : List ℕ) (after : Held)
    (own_is : own ≡ byte ∷ []) (after_is : after ≡ reader.after now next byte) where
  -- a byte that is read is taken with its outcome
  pub takes : (outcome : ByteOutcome) → Reads reader now byte next lent (Ok outcome) rest →
      TakesByte reader now next own (written_by reader now byte next) (items_of outcome) after
  takes outcome reads =
      record {
        byte = byte;
        own_is = own_is;
        accepted = reads.0;
        written_are = refl;
        items_are = ap items_of reads.1;
        after_is = after_is;
      }

  -- or refused
  pub refuses : (why : Status) → Reads reader now byte next lent (Err why) rest → RefusesByte reader now next own why after
  refuses why reads = record { byte = byte; own_is = own_is; refused = reads.0; after_is = after_is }
