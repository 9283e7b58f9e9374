-- Replies in both formats.
use Rattle.std.proofs.Common.{◌≡◌, ◌≤◌, ◌<◌, ◌==◌, ℕ, Bool, true, false, if◌then◌else◌, [], ◌∷◌, length, refl, arith}
use Rattle.ci_messages.specs.declared.kind.Format.{Format}
use Rattle.ci_messages.specs.declared.kind.Format.TheVariants as format
use Rattle.ci_messages.specs.declared.kind.Kind.{Kind}
use Rattle.ci_messages.specs.declared.kind.Kind.TheVariants as kind
use Rattle.ci_messages.specs.Fields.{FitsField, bytes_of_fields, number}
use Rattle.ci_messages.specs.Messages.{block_in, kind_of, path_in}

-- a message of this sub-id and version is of this kind
abbrev pub Is : Kind → ℕ → ℕ → Type 0
Is kind sub version = kind ≡ kind_of sub version

-- the kind of a Reply to Discovery, in both versions
pub kind_71 : (short : Bool) → Is kind.DiscoveryReply 0x71 (if short then 1 else 2)
kind_71 true = refl
kind_71 false = refl

pub few_path_and_block : (form : Format) (path block : ℕ) →
    length (bytes_of_fields (path_in form ∷ block_in form ∷ []) (number path ∷ number block ∷ [])) ≤ 2
few_path_and_block format.Short path block = omega arith
few_path_and_block format.Full path block = omega arith

-- a message of version 01 is no inquiry of the endpoint
pub endpoint_is_full : (sub version : ℕ) → kind.EndpointInquiry ≡ kind_of sub version → (version == 1) ≡ false
endpoint_is_full sub version is = grind (arith, is)

-- the path of a Discovery is a data byte
pub path_is_data : (form : Format) (path : ℕ) → FitsField (path_in form) (number path) → path < 128
path_is_data format.Full path fits = fits
path_is_data format.Short path fits =
    let none : number path ≡ number 0 = fits in
    let zero : path ≡ 0 = cc in omega (arith, zero)
