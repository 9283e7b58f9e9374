use Rattle.std.proofs.Common.{◌∷◌, ◌++◌, ◌%◌, ◌/◌, ◌≤◌, ◌==◌, [], List, ℕ, arith, sym, subst, length, length-append}
use Rattle.ci_messages.specs.declared.kind.Kind.TheVariants as kind
use Rattle.ci_messages.specs.Fields.{number, bytes_of_fields}
use Rattle.ci_messages.specs.Messages.{block_in, format_of, path_in}
use Rattle.ci_responder.proofs.ReplyLaws.{Is, few_path_and_block, kind_71}
use Rattle.ci_responder.proofs.responder.Responder.tell_device.Goals as goal

pub new-requires-clause-view : goal.new-requires-clause-view
new-requires-clause-view c =
    let held = c.self.invariant in
    record {
      address = tt;
      sub = omega (arith, c.sub.ensures.data_byte);
      version = omega (arith, c.reply_version-version.ensures.most);
      source = omega arith;
      destination = c.requires.view.source;
      kind =
          subst (λ sub. Is kind.DiscoveryReply sub c.reply_version-version.result) (sym c.sub.ensures.value)
          (subst (Is kind.DiscoveryReply 0x71) (sym c.reply_version-version.ensures.value) (kind_71 (c.args.view.now.version == 1)));
      body = (
        held.manufacturer,
        (
          held.family,
          (held.model, (held.revision, (omega arith, (held.room, (c.placed-path.ensures.fits, (c.placed-block.ensures.fits, tt)))))),
        ),
      );
    }

pub new-requires-clause-fits : goal.new-requires-clause-fits
new-requires-clause-fits c =
    let held = c.self.invariant in
    let identity = c.self.inside.identity in
    let version : ℕ = c.reply_version-version.result in
    let last : List ℕ = bytes_of_fields (path_in (format_of version) ∷ block_in (format_of version) ∷ [])
    (number c.placed-path.result ∷ number c.placed-block.result ∷ []) in
    let few : length last ≤ 2 = few_path_and_block (format_of version) c.placed-path.result c.placed-block.result in
    let rest : List ℕ =
    4 ∷ c.self.inside.room % 16384 % 128 ∷ c.self.inside.room % 16384 / 128 ∷ c.self.inside.room / 16384 % 128 ∷ c.self.inside.room / 16384
    / 128 ∷ last in
    omega (
      arith,
      few,
      held.manufacturer.0,
      held.family.0,
      held.model.0,
      held.revision.0,
      length-append identity.manufacturer (identity.family ++ (identity.model ++ (identity.revision ++ rest))),
      length-append identity.family (identity.model ++ (identity.revision ++ rest)),
      length-append identity.model (identity.revision ++ rest),
      length-append identity.revision rest,
    )
