use Rattle.std.proofs.Common.{◌∙◌, ◌∷◌, ◌++◌, [], arith, ap, sym, refl, length, length-append}
use Rattle.std.proofs.lemmas.Option.{slice_get_read}
use Rattle.ci_responder.specs.Keys.{key_of}
use Rattle.ci_responder.proofs.KeyLaws.{fresh_at, states-more}
use Rattle.ci_responder.proofs.opening.first_states.Goals as goal

pub add-requires : goal.add-requires
add-requires c =
    let all = c.profiles-profiles.result.now in
    let k = c.loop-profile.profile-index in
    let profile = c.profile-item.result in
    let there = sym (slice_get_read all (length all) k profile refl c.loop-profile-test.true c.profile-item.is) in
    fresh_at all k profile c.loop-profile.states.entries c.profiles-profiles.ensures.distinct there c.loop-profile.invariant.states

pub loop-profile-preserved : goal.loop-profile-preserved
loop-profile-preserved c =
    let all = c.profiles-profiles.result.now in
    let k = c.loop-profile.profile-index in
    let profile = c.profile-item.result in
    let there = sym (slice_get_read all (length all) k profile refl c.loop-profile-test.true c.profile-item.is) in
    record {
      states = c.in_ok-add.ensures
          ∙ ap (λ states. states ++ (key_of profile, profile.on) ∷ []) c.loop-profile.invariant.states
          ∙ sym (states-more all k profile there);
      count = omega (
        arith,
        ap length c.in_ok-add.ensures,
        length-append c.loop-profile.states.entries ((key_of profile, profile.on) ∷ []),
        c.loop-profile.invariant.count,
      );
    }
