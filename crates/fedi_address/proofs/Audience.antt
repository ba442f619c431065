-- Who is among the recipients.
use Rattle.std.proofs.Common.{◌≡◌, ℕ, ◌||◌, List, ◌++◌, ap, ◌∙◌}
use Rattle.std.proofs.lemmas.List.Folds.{list_any-append}
use Rattle.std.specs.Prelude.{bytes_eq}
use Rattle.fedi_address.specs.Recipients.{is_among}

pub is_among-append : (text : List ℕ) (xs ys : List (List ℕ)) → is_among text (xs ++ ys) ≡ (is_among text xs || is_among text ys)
unfolding is_among
is_among-append text xs ys = list_any-append (λ u. bytes_eq u text) xs ys

-- a text is among five lists exactly if it is in one of them
pub is_among_all : (text : List ℕ) (a b c d e : List (List ℕ)) → is_among text (a ++ (b ++ (c ++ (d ++ e)))) ≡ (is_among text a || (is_among text b || (is_among text c || (is_among text d || is_among text e))))
is_among_all text a b c d e =
    is_among-append text a (b ++ (c ++ (d ++ e)))
    ∙ ap (λ t. is_among text a || t) (is_among-append text b (c ++ (d ++ e))
    ∙ ap (λ t. is_among text b || t) (is_among-append text c (d ++ e)
    ∙ ap (λ t. is_among text c || t) (is_among-append text d e)))
