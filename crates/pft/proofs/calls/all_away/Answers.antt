use Rattle.std.proofs.Common.{◌≡◌, ◌∙◌}
use Rattle.std.proofs.lemmas.List.{take-replicate}
use Rattle.pft_steps.specs.Steps.{nobody}
use Rattle.pft.proofs.calls.all_away.Goals as goal

pub returns : goal.returns
returns c =
    let a = c.default.ensures in
    let away : c.default.result ≡ nobody = λ k. record { stage = a.0 k; saved = a.1.0 k; ticket = a.1.1 k } in
    c.truncate.ensures.items ∙ rw (c.from-all.ensures.0, away) (take-replicate c.args.parties 32 nobody c.requires)
