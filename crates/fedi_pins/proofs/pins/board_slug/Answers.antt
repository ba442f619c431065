use Rattle.std.proofs.Common.{rules, ◌≡◌, None, codes, sym, ap, ◌∙◌, ◌++◌}
use Rattle.fedi_pins.proofs.Slugs.{no_author, no_path, parsed}
use Rattle.fedi_pins.proofs.pins.board_slug.Goals as goal

pub returns-in_err-path : goal.returns-in_err-path
returns-in_err-path c =
    let none : c.from_residual.result ≡ None = search rules in
    none ∙ sym (no_author c.args.author.now c.text.result.now c.args.id.now c.text.ensures.value c.in_err-path.ensures.cases)

pub returns-in_err-strip_prefix : goal.returns-in_err-strip_prefix
returns-in_err-strip_prefix c =
    let none : c.from_residual-in_err-strip_prefix.result ≡ None = search rules in
    none ∙ sym (no_path c.args.author.now c.text.result.now c.args.id.now c.in_ok-path.path.now c.text.ensures.value
    (c.in_ok-path.ensures.cases.1.1 ∙ ap (λ rest. c.text.result.now ++ rest) (sym c.in_ok-path.ensures.cases.2)) c.in_err-strip_prefix.ensures.cases)

pub returns : goal.returns
returns c =
    parsed c.args.author.now c.text.result.now c.args.id.now c.in_ok-path.path.now c.in_ok-strip_prefix.field-0.now c.parse.result c.text.ensures.value
    (c.in_ok-path.ensures.cases.1.1 ∙ ap (λ rest. c.text.result.now ++ rest) (sym c.in_ok-path.ensures.cases.2))
    (c.in_ok-strip_prefix.ensures.cases.1.1 ∙ ap (λ rest. codes "/c/" ++ rest) (sym c.in_ok-strip_prefix.ensures.cases.2))
    c.parse.ensures.name c.parse.ensures.same
