-- The lines of profiles, in the output or in the notes.
use Rattle.std.specs.Prelude.{ℕ, Bool, List, [], ◌∷◌, Option, unwrap_or}
use Rattle.function_blocks.specs.declared.setup.Profile.{Profile}
use Rattle.ci_responder.specs.declared.keys.Key.{Key}
use Rattle.ci_responder.specs.Keys.{key_of}
use Rattle.endpoint_lines.specs.EndpointLines.{profile_text}
use Rattle.pass_loop.specs.Each.{for_each}
use Rattle.pass_loop.specs.Put.{Put, in_notes, in_output}
use Rattle.ci_text.specs.declared.profiles.LinePlace.{LinePlace}
use Rattle.ci_text.specs.declared.profiles.LinePlace.TheVariants as line

abbrev pub put_at : LinePlace → List ℕ → Put
put_at line.Output text = in_output text
put_at line.Notes text = in_notes text

-- the line of a profile: on or off, if that is known, else as the setup says
abbrev pub profile_line_of : LinePlace → (Key → Option Bool) → ℕ → Profile → List Put
profile_line_of place on number profile =
    put_at place (profile_text profile (unwrap_or (on (key_of profile)) profile.on)) ∷ []

-- the lines of these profiles, in order
abbrev pub profile_lines : LinePlace → (Key → Option Bool) → List Profile → List Put
profile_lines place on profiles = for_each (profile_line_of place on) 0 profiles
