-- A reader that has given nothing.
use Rattle.std.proofs.Common.{◌≡◌, ◌+◌, ℕ, List, [], Option, ap, arith, sym, subst}
use Rattle.item_reader.specs.Reading.{Reading, new_reading, passed}
use Rattle.item_reader.specs.SoFar.{ReadSoFar, given, start}
use Rattle.pass_loop.specs.Items.{limit}

pub none_given : {How Item : Type 0} (asked : List ℕ → ℕ) (item_of : ℕ → List ℕ → Item) (how : How) (reader : Reading How)
    (all : Option (List ℕ)) → reader ≡ new_reading how limit → ReadSoFar asked item_of how limit reader (given all all [])
none_given {How = How} asked item_of how reader all is_new =
    let G : Reading How → Type 0 = λ r. ReadSoFar asked item_of how limit r (given all all []) in
    subst G (sym is_new) (start asked item_of how limit all)

-- a reader that has passed nothing is as it was
pub none_passed : {How : Type 0} (reader : Reading How) → passed 0 reader ≡ reader
none_passed {How} reader =
    let same : reader.offset + 0 ≡ reader.offset = omega arith in
    let R : ℕ → Reading How = λ n. record reader { offset = n } in
    ap R same
