-- What holds of all recordings.
use Rattle.std.specs.Prelude.{◌≡◌, ℕ, List, ◌++◌}
use Rattle.item_reader.specs.CutLaws.{ItemsAreReadInOrder}
use Rattle.item_reader.specs.declared.cutting.Tail.{Tail}
use Rattle.item_reader.specs.declared.cutting.Tail.TheVariants.{End}
use Rattle.ump_words.specs.Cut.{Cuts, bytes_asked, framed_at}
use Rattle.packet_words.specs.declared.words.Order.{Order}

-- The packets that a reader has given of a recording are those at its front, one more after each call; at the end
-- they are all of its packets.
abbrev pub PacketsAreReadInOrder : Type 0
PacketsAreReadInOrder = ItemsAreReadInOrder bytes_asked framed_at

abbrev pub StreamsAreCutInOneWay : Type 0
StreamsAreCutInOneWay =
    (order : Order) (limit : ℕ) (bytes : List ℕ) (cs ds : List (List ℕ)) (t u : Tail) →
    Cuts order limit bytes cs t → Cuts order limit bytes ds u → (cs ≡ ds) × (t ≡ u)

abbrev pub FrontsAreCutAsTheStream : Type 0
FrontsAreCutAsTheStream =
    (order : Order) (limit : ℕ) (front more : List ℕ) (chunks first : List (List ℕ)) (tail : Tail) →
    Cuts order limit (front ++ more) chunks tail → Cuts order limit front first End →
    (rest : List (List ℕ)) × (chunks ≡ first ++ rest)
