use Rattle.std.proofs.Common.{◌≡◌, take}
use Rattle.pass_loop.specs.Places.{over_puts}
use Rattle.ci_text.specs.Profiles.{profile_lines}
use Rattle.ci_text.proofs.profiles.put_profiles.Given as goal

abbrev pub invariant-loop-profile : goal.invariant-loop-profile
invariant-loop-profile g l =
    g.O.Outputs.places l.outputs
    ≡ over_puts (profile_lines l.place (g.P.ProfileStates.states l.known) (take l.profile-index l.setup.profiles)) (g.O.Outputs.places l.fn.outputs)
