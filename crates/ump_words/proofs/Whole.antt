-- Each packet that is given out is whole.
use Rattle.std.proofs.Common.{◌≡◌, ℕ, Option, None, Some, refl, sym, subst}
use Rattle.std.specs.Prelude.{IfOk, IfSome, MatchOption, Result, Ok, Err}
use Rattle.item_reader.specs.Reading.{Answers, Cursor, IsHeldAt, Reading, answer_of}
use Rattle.item_reader.specs.declared.cutting.Tail.{Tail}
use Rattle.item_reader.specs.declared.cutting.Tail.TheVariants.{End, Truncated, TooLong}
use Rattle.outside.specs.declared.objects.ReadStop.{ReadStop}
use Rattle.ump_words.specs.Cut.{IsWhole, bytes_asked, framed_at}
use Rattle.packet_words.specs.declared.words.Framed.{Framed}
use Rattle.packet_words.specs.declared.words.Order.{Order}
use Rattle.packet_words.proofs.Counts.{IsWhole-words_of}

abbrev GivesWhole : Result (Option Framed) ReadStop → Type 0
GivesWhole result = IfOk result (λ given. IfSome given (λ framed. IsWhole framed.words))

answered : (old new : Cursor Order) (result : Result (Option Framed) ReadStop)
    → Answers (bytes_asked old.reader.how) (framed_at old.reader.how) old new result → GivesWhole result
answered old new (Ok (Some framed)) gives =
    let W : Framed → Type 0 = λ f. IsWhole f.words in
    subst W (sym gives.item_is) (IsWhole-words_of old.reader.how gives.chunk gives.is_item)
answered old new (Ok None) ends = tt
answered old new (Err stop) waits = tt

last : (tail : Tail) → GivesWhole (answer_of tail)
last End = tt
last (Truncated offset) = tt
last TooLong = tt

pub whole_given : (A B : Type 0) (old new : Cursor Order) (result : Result (Option Framed) ReadStop)
    → (old.reader.end ≡ None → Answers (bytes_asked old.reader.how) (framed_at old.reader.how) old new result)
    → IfSome old.reader.end (λ tail. (result ≡ answer_of tail) × A × B) → GivesWhole result
whole_given A B old new result answers again = by_end old.reader.end refl again
  where
    by_end : (end : Option Tail) → old.reader.end ≡ end → IfSome end (λ tail. (result ≡ answer_of tail) × A × B) → GivesWhole result
    by_end None e ended = answered old new result (answers e)
    by_end (Some tail) e ended = let W : Result (Option Framed) ReadStop → Type 0 = λ r. GivesWhole r in subst W (sym ended.0) (last tail)

-- so is each one that is held
pub whole_held : (Rest : Type 0) (at : ℕ) (reader : Reading Order) (result : Option (Framed × ℕ))
    → MatchOption result Rest (λ given. IsHeldAt (bytes_asked reader.how) (framed_at reader.how) at given.1 reader given.0)
    → IfSome result (λ given. IsWhole given.0.words)
whole_held Rest at reader None rest = tt
whole_held Rest at reader (Some given) held =
    let gives = held.gives None in
    let W : Framed → Type 0 = λ f. IsWhole f.words in
    subst W (sym gives.item_is) (IsWhole-words_of reader.how gives.chunk gives.is_item)
