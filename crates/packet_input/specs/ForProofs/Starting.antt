-- A reader that has given nothing.
use Rattle.std.proofs.Common.{◌≡◌, ℕ, List, [], Option, sym, subst}
use Rattle.item_reader.specs.SoFar.{given, start}
use Rattle.ump_words.specs.Cut.{bytes_asked}
use Rattle.ump_words.specs.Reader.{Reading}
use Rattle.ump_words.specs.declared.words.Order.{Order}
use Rattle.packet_input.specs.Packets.{GivenBehind, framed_behind, room_behind, words_behind}

pub none_given : (reader : Reading) (order : Order) (before : ℕ) (all : Option (List ℕ)) → reader ≡ words_behind order before
    → GivenBehind order before reader (given all all [])
none_given reader order before all is_new =
    let G : Reading → Type 0 = λ r. GivenBehind order before r (given all all []) in
    subst G (sym is_new) (record { read = start (bytes_asked order) (framed_behind before order) order (room_behind before) all; are = tt })
