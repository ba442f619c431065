use Rattle.std.proofs.Common.{refl}
use Rattle.memchr.specs.Find.{is_byte}
use Rattle.memchr.proofs.lemmas.CallerLemmas.{length-places}
use Rattle.fedi_model.specs.Requests.{line_count}
use Rattle.fedi_http.proofs.requests.line_count.Goals as goal

pub returns : goal.returns
unfolding line_count
returns c = rw (c.saturating_sub.ensures, c.count.ensures, c.memchr_iter.ensures.value, length-places (is_byte 10) c.args.text.now) refl
