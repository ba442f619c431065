-- What is hashed and read of a record.
use Rattle.std.proofs.Common.{◌≡◌, ◌≢◌, ℕ, ◌+◌, ◌<◌, ◌≤◌, ◌^◌, List, [], ◌∷◌, ◌++◌, length, take, drop, refl, sym, ◌∙◌, ap, subst, append_assoc, arith, length-take-le, length-drop, take-append-drop}
use Rattle.std.specs.Prelude.{Some, None}
use Rattle.std.proofs.lemmas.List.{drop-drop, drop-take, take-take}
use Rattle.fedi_outside.specs.Images.{size_code}
use Rattle.fedi_journal.specs.Chains.{IsLinked, chain, link, link_text}
use Rattle.fedi_journal.specs.declared.chains.Chain.{Chain}
use Rattle.fedi_journal.specs.declared.chains.HiddenChain.{HiddenChain}
use Rattle.fedi_journal.proofs.ChainLemmas.{chain_push}

-- the text of a record, taken in piece by piece
pub text_by_pieces : (before size r : List ℕ) → size ≡ size_code (length r) → (before ++ size) ++ r ≡ link_text before r
unfolding link_text
text_by_pieces before size r is = ap (λ (s : List ℕ). (before ++ s) ++ r) is ∙ append_assoc before (size_code (length r)) r

-- one more piece of the bytes
pub piece_more : (bytes message : List ℕ) (at done count : ℕ) → (message ++ take done (drop at bytes)) ++ take count (drop (at + done) bytes) ≡ message ++ take (done + count) (drop at bytes)
piece_more bytes message at done count =
    let all = drop at bytes in
    let both : take (done + count) all ≡ take done all ++ take count (drop (at + done) bytes) =
    sym (take-append-drop done (take (done + count) all)) ∙ (ap (λ (x : List ℕ). x ++ drop done (take (done + count) all)) (take-take done (done + count) all (omega arith))
    ∙ (ap (λ (x : List ℕ). take done all ++ x) (drop-take done count all) ∙ ap (λ (l : List ℕ). take done all ++ take count l) (drop-drop done at bytes))) in
    append_assoc message (take done all) (take count (drop (at + done) bytes)) ∙ ap (λ (l : List ℕ). message ++ l) (sym both)

-- what is remembered of records of this chain
abbrev pub of_chain : List ℕ → Chain
of_chain tip = record { tip = tip }

abbrev pub of_hidden : List ℕ → HiddenChain
of_hidden tip = record { tip = tip }

-- what follows a record by the chain before it, follows it by the records before it
pub followed_some : (rs : List (List ℕ)) (tip r behind next : List ℕ) → tip ≡ chain rs → IsLinked tip r behind (Some next)
    → (next ≡ chain (rs ++ r ∷ [])) × (take 32 behind ≡ chain (rs ++ r ∷ []))
followed_some rs tip r behind next is linked =
    let there : link tip r ≡ chain (rs ++ r ∷ []) = ap (λ (t : List ℕ). link t r) is ∙ sym (chain_push rs r) in
    (linked.0 ∙ there, linked.1 ∙ (linked.0 ∙ there))

pub followed_none : (rs : List (List ℕ)) (tip r behind : List ℕ) → tip ≡ chain rs → IsLinked tip r behind None → take 32 behind ≢ chain (rs ++ r ∷ [])
followed_none rs tip r behind is linked here = linked (here ∙ (chain_push rs r ∙ ap (λ (t : List ℕ). link t r) (sym is)))
