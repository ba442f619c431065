use Rattle.std.proofs.Common.{sym, ◌∙◌}
use Rattle.fedi_http.proofs.FieldLemmas.{is_measured, bad-form, both-measures, in-chunks, no-coding, length_told, short_length, no-length, no-body, no-host, repeats}
use Rattle.fedi_http.proofs.framing.coding_of.Goals as goal
use Rattle.fedi_http.proofs.framing.coding_of.Goals.{then-not-has_host-via-then-not-has_host, then-not-has_host-via-else-not-has_host+then-not-has_no_repeats}

pub returns-then-not-has_host-clause-coding : goal.returns-then-not-has_host-clause-coding
returns-then-not-has_host-clause-coding c fields known =
    let k = c.args.known.now in
    elim c.then-not-has_host.branch [
      | then-not-has_host-via-then-not-has_host w ↦
          bad-form c.args.method.now c.args.minor fields k (no-host c.args.minor k (sym c.has_host.ensures ∙ w.if-not-has_host.true)) known
      | then-not-has_host-via-else-not-has_host+then-not-has_no_repeats w ↦
          bad-form c.args.method.now c.args.minor fields k (repeats c.args.minor k (sym w.has_no_repeats.ensures ∙ w.if-not-has_no_repeats.true)) known
    ]

pub returns-in-Some-Some-clause-coding : goal.returns-in-Some-Some-clause-coding
returns-in-Some-Some-clause-coding c fields known =
    both-measures c.args.method.now c.args.minor fields c.args.known.now c.in-Some-Some.field-0-0 c.in-Some-Some.field-0-1
    (is_measured c.args.minor fields c.args.known.now _ _ (c.if-not-has_host.ensures) (c.if-not-has_no_repeats.ensures) c.in-Some-Some.is-0 c.in-Some-Some.is-1 known)

pub returns-in-Some-None-clause-coding : goal.returns-in-Some-None-clause-coding
returns-in-Some-None-clause-coding c fields known =
    in-chunks c.args.method.now c.args.minor fields c.args.known.now c.in-Some-None.coding
    (is_measured c.args.minor fields c.args.known.now _ _ (c.if-not-has_host.ensures) (c.if-not-has_no_repeats.ensures) c.in-Some-None.is-0 c.in-Some-None.is-1 known)
    (sym c.is_chunked.ensures ∙ c.if-is_chunked.true)

pub returns-in-Some-None-2-clause-coding : goal.returns-in-Some-None-2-clause-coding
returns-in-Some-None-2-clause-coding c fields known =
    no-coding c.args.method.now c.args.minor fields c.args.known.now c.in-Some-None.coding
    (is_measured c.args.minor fields c.args.known.now _ _ (c.if-not-has_host.ensures) (c.if-not-has_no_repeats.ensures) c.in-Some-None.is-0 c.in-Some-None.is-1 known)
    (sym c.is_chunked.ensures ∙ c.if-is_chunked.false)

pub returns-in-None-None-clause-coding : goal.returns-in-None-None-clause-coding
returns-in-None-None-clause-coding c fields known =
    no-length c.args.method.now c.args.minor fields c.args.known.now
    (is_measured c.args.minor fields c.args.known.now _ _ (c.if-not-has_host.ensures) (c.if-not-has_no_repeats.ensures) c.in-None-None.is-0 c.in-None-None.is-1 known)
    (sym c.is_post.ensures ∙ c.if-is_post.true)

pub returns-in-None-None-2-clause-coding : goal.returns-in-None-None-2-clause-coding
returns-in-None-None-2-clause-coding c fields known =
    no-body c.args.method.now c.args.minor fields c.args.known.now
    (is_measured c.args.minor fields c.args.known.now _ _ (c.if-not-has_host.ensures) (c.if-not-has_no_repeats.ensures) c.in-None-None-2.is-0 c.in-None-None-2.is-1 known)
    (sym c.is_post.ensures ∙ c.if-is_post.false)

pub returns-in-None-Some-clause-coding : goal.returns-in-None-Some-clause-coding
returns-in-None-Some-clause-coding c fields known =
    length_told c.args.method.now c.args.minor fields c.args.known.now c.in-None-Some.length c.length_of.result
    (is_measured c.args.minor fields c.args.known.now _ _ (c.if-not-has_host.ensures) (c.if-not-has_no_repeats.ensures) c.in-None-Some.is-0 c.in-None-Some.is-1 known)
    c.length_of.ensures.length

pub returns-in-None-Some-clause-short : goal.returns-in-None-Some-clause-short
returns-in-None-Some-clause-short c = short_length c.in-None-Some.length.now c.length_of.result c.length_of.ensures.length
