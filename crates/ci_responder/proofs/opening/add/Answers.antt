use Rattle.std.proofs.Common.{◌∙◌}
use Rattle.indexmap.proofs.CallerLemmas.{insert_entry-new}
use Rattle.ci_responder.specs.Keys.{key_of}
use Rattle.ci_responder.proofs.opening.add.Goals as goal

pub returns-in-Ok : goal.returns-in-Ok
returns-in-Ok c =
    c.in-Ok.ensures.entries ∙ insert_entry-new _ c.args.states.now (key_of c.args.profile.now) c.args.profile.now.on c.requires
