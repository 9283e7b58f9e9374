-- The line of a self test.
use Rattle.std.specs.Prelude.{ℕ, List, ◌++◌, codes, decimal}
use Rattle.self_test.specs.declared.counts.Counts.{Counts}
use Rattle.self_test.specs.Counts.{counted}

-- the line of these counts, of so many packets of a seed
abbrev pub counts_text : ℕ → ℕ → Counts → List ℕ
counts_text seed packets counts =
    codes "selftest " ++ decimal seed ++ codes " packets " ++ decimal packets
    ++ codes " carried " ++ decimal counts.carried ++ codes " listed " ++ decimal counts.listed
    ++ codes " bytes " ++ decimal counts.bytes ++ codes " again " ++ decimal counts.again ++ codes "\n"

abbrev pub self_test_text : ℕ → ℕ → List ℕ
self_test_text seed packets = counts_text seed packets (counted seed packets)
