use Rattle.std.proofs.Common.{◌≡◌, ℕ, ◌+◌, ◌<◌, List, [], ◌∷◌, ◌++◌, length, get_or, take, sym, ap, subst, ◌∙◌}
use Rattle.std.specs.List.{flat_map}
use Rattle.std.proofs.lemmas.List.{flat_map_more, take_more}
use Rattle.std.proofs.lemmas.List.Elements.{All-more}
use Rattle.fedi_entry.proofs.values.put_each.Goals as goal

one_more : {X : Type 0} (code : X → List ℕ) (start before after : List ℕ) (xs : List X) (i : ℕ) (x : X) → i < length xs → x ≡ get_or xs i x
    → before ≡ start ++ flat_map code (take i xs) → after ≡ before ++ code x → after ≡ start ++ flat_map code (take (i + 1) xs)
one_more {X} code start before after xs i x lt is so_far put =
    let taken : take (i + 1) xs ≡ take i xs ++ x ∷ [] = take_more xs i x lt ∙ ap (λ (y : X). take i xs ++ y ∷ []) (sym is) in
    put ∙ (ap (λ (l : List ℕ). l ++ code x) so_far ∙ (flat_map_more code start (take i xs) x ∙ ap (λ (l : List X). start ++ flat_map code l) (sym taken)))

pub loop-item-preserved : goal.loop-item-preserved
loop-item-preserved g c = (
  one_more g.T.Encode.code c.args.bytes.now.items c.loop-item.bytes.items c.put.new.bytes.items c.args.items.now c.loop-item.item-index c.item-item.result c.loop-item-test.true c.item-item.is c.loop-item.invariant.0 c.in_ok-put.ensures.code,
  All-more g.T.Encode.form c.args.items.now c.loop-item.item-index c.item-item.result c.loop-item-test.true c.loop-item.invariant.1 (subst g.T.Encode.form c.item-item.is c.in_ok-put.ensures.formed),
)
