-- The endpoint's own keys.
use Rattle.std.specs.Prelude.{ℕ, ◌≡◌, ◌<◌, ◌≤◌, ◌^◌, Bool, true, ◌==◌, ◌&&◌, ◌||◌, length, codes, Ok}
use Rattle.std.specs.List.{All, list_all}
use Rattle.std.specs.Str.{IsUtf8}
use Rattle.toml.specs.Data.{Members}
use Rattle.system_stream.specs.Texts.{is_printable}
use Rattle.function_blocks.specs.Keys.{table_at, limited_text_at, numbers_at, number_at, flag_at}
use Rattle.function_blocks.specs.Rules.{Read, needs, holds}
use Rattle.function_blocks.specs.declared.rules.Rule.TheVariants as rule
use Rattle.function_blocks.specs.declared.setup.Endpoint.{Endpoint}

-- whether this is a protocol, 1 for MIDI 1.0 or 2 for MIDI 2.0, that is supported
abbrev pub is_supported : Bool → Bool → ℕ → Bool
is_supported midi1 midi2 protocol = (protocol == 1 && midi1) || (protocol == 2 && midi2)

abbrev pub endpoint_of : Members → Read Endpoint
endpoint_of setup =
    needs rule.EndpointIsATable (table_at (codes "endpoint") setup) (λ table.
    needs rule.NameIsShort (limited_text_at 98 (codes "name") table) (λ name.
    needs rule.IdIsPrintable (limited_text_at 42 (codes "id") table) (λ id.
    holds rule.IdIsPrintable (list_all is_printable id) (
    needs rule.ManufacturerIsThreeNumbers (numbers_at 3 127 (codes "manufacturer") table) (λ manufacturer.
    needs rule.FamilyIsInRange (number_at 0 16383 (codes "family") table) (λ family.
    needs rule.ModelIsInRange (number_at 0 16383 (codes "model") table) (λ model.
    needs rule.RevisionIsFourNumbers (numbers_at 4 127 (codes "revision") table) (λ revision.
    needs rule.SomeProtocolIsThere (flag_at (codes "midi1") table) (λ midi1.
    needs rule.SomeProtocolIsThere (flag_at (codes "midi2") table) (λ midi2.
    holds rule.SomeProtocolIsThere (midi1 || midi2) (
    needs rule.ProtocolIsThere (number_at 1 2 (codes "protocol") table) (λ protocol.
    holds rule.ProtocolIsThere (is_supported midi1 midi2 protocol) (
    needs rule.StaticIsAFlag (flag_at (codes "static") table) (λ fixed.
    Ok (record {
      name = name;
      id = id;
      manufacturer = manufacturer;
      family = family;
      model = model;
      revision = revision;
      midi1 = midi1;
      midi2 = midi2;
      protocol = protocol;
      fixed = fixed;
    })))))))))))))))

-- an endpoint's keys keep the rules that are named here
pub record IsEndpoint (e : Endpoint) : Type 0 where
  pub named : (0 < length e.name) × (length e.name ≤ 98)
  pub utf8 : IsUtf8 e.name
  pub identified : (0 < length e.id) × (length e.id ≤ 42)
  pub printable : list_all is_printable e.id ≡ true
  pub manufacturer : (length e.manufacturer ≡ 3) × All (λ byte. byte ≤ 127) e.manufacturer
  pub family : e.family < 2 ^ 14
  pub model : e.model < 2 ^ 14
  pub revision : (length e.revision ≡ 4) × All (λ byte. byte ≤ 127) e.revision
  pub supported : is_supported e.midi1 e.midi2 e.protocol ≡ true
