use Rattle.std.proofs.Common.{◌∙◌, ap}
use Rattle.system_stream.specs.declared.texts.TextKind.TheVariants as kind
use Rattle.function_blocks.proofs.PushLaws.{asked_message, asked_text, pushes_five}
use Rattle.function_blocks.proofs.whole.Setup.push_discovery.Goals as goal

pub returns : goal.returns
returns c =
    let name = c.as_slice-name.ensures.value ∙ ap (λ facts. facts.endpoint.name) c.self.view_is in
    let id = c.as_slice-id.ensures.value ∙ ap (λ facts. facts.endpoint.id) c.self.view_is in
    pushes_five _ _ _ _ _ c.args.replies.now c.push_asked.new.replies c.push_asked-2.new.replies c.push_asked_text.new.replies
    c.push_asked_text-2.new.replies c.push_asked-3.new.replies
    (asked_message _ _ _ _ _ _ c.asks.ensures c.info.ensures.value c.push_asked.ensures)
    (asked_message _ _ _ _ _ _ c.asks-2.ensures c.identity_message.ensures.value c.push_asked-2.ensures)
    (asked_text _ _ kind.EndpointName 0 _ _ _ _ c.asks-3.ensures name c.push_asked_text.ensures.pushes)
    (asked_text _ _ kind.ProductId 0 _ _ _ _ c.asks-4.ensures id c.push_asked_text-2.ensures.pushes)
    (asked_message _ _ _ _ _ _ c.asks-5.ensures c.notice.ensures.value c.push_asked-3.ensures)
