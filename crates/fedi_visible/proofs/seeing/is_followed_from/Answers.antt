use Rattle.std.proofs.Common.{rules}
use Rattle.std.proofs.lemmas.Bool.{and_parts}
use Rattle.fedi_town.specs.Relations.{is_following}
use Rattle.fedi_town.specs.Seeing.{is_follower_from, reaches}
use Rattle.fedi_visible.proofs.seeing.is_followed_from.Goals as goal

pub returns : goal.returns
unfolding is_follower_from
returns c =
    let t = c.args.facts.now.town in
    let host = c.args.host.now in
    let author = c.args.author.now in
    c.is_followed_by.ensures (is_follower_from t host author) (search rules)
    (λ x both. (and_parts (is_following author x) (reaches t host author x.author) both).0)
