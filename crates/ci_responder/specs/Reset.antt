-- A responder of a setup, whatever messages it has heard.
use Rattle.std.specs.Prelude.{◌≡◌, map}
use Rattle.std.specs.Map.{keys_of}
use Rattle.function_blocks.specs.Setups.{SetupData, identity_of}
use Rattle.ci_responder.specs.declared.kept.CiBlock.{CiBlock}
use Rattle.ci_responder.specs.Held.{Held}
use Rattle.ci_responder.specs.History.{kept}
use Rattle.ci_responder.specs.Keys.{key_of}

-- a block that has used up none of its MUIDs
abbrev pub unspent : CiBlock → CiBlock
unspent block = record block { spent = 0 }

-- the state is the setup's, except for the MUIDs that are used up and the switches of profiles
pub record IsOf (setup : SetupData) (held : Held) : Type 0 where
  pub blocks : map unspent held.blocks ≡ map (kept 0) setup.blocks
  pub profiles : keys_of held.states ≡ map key_of setup.profiles
  pub identity : held.identity ≡ identity_of setup
  pub product_id : held.product_id ≡ setup.endpoint.id
