-- What holds of all texts.
use Rattle.std.specs.Prelude.{◌≡◌, ℕ, List, Ok}
use Rattle.function_blocks.specs.Setups.{SetupData, IsSetup, setup_of}

-- the setup of a text keeps the rules of its keys, and those that compare its blocks and its profiles
abbrev pub SetupsKeepTheRules : Type 0
SetupsKeepTheRules = (text : List ℕ) (setup : SetupData) → setup_of text ≡ Ok setup → IsSetup setup
