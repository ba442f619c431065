-- What equal chains show.
use Rattle.std.proofs.Common.{◌≡◌, ◌≢◌, ◌⊎◌, inl, inr, ⊎_elim, ℕ, suc, ◌+◌, List, [], ◌∷◌, ◌++◌, length, take, drop, replicate, refl, sym, ◌∙◌, ap, subst, arith, length-append, true, false, Bool}
use Rattle.std.specs.Prelude.{Contains, fold}
use Rattle.std.specs.Str.{bytes_eq}
use Rattle.std.proofs.lemmas.List.{take_at, drop_at, length-take}
use Rattle.std.proofs.lemmas.List.Sums.{fold-append}
use Rattle.std.proofs.lemmas.Slice.Eq.{bytes_eq-Decides}
use Rattle.sha2.specs.Sha256.{sha256}
use Rattle.sha2.proofs.Facts256.{length-sha256}
use Rattle.fedi_outside.specs.Images.{size_code}
use Rattle.fedi_journal.specs.Chains.{ChainsDetermine, Collide, PrefixesDetermine, chain, link, link_text, no_chain, texts_from}

pub chain_push : (rs : List (List ℕ)) (r : List ℕ) → chain (rs ++ r ∷ []) ≡ link (chain rs) r
unfolding chain
chain_push rs r = fold-append link no_chain rs (r ∷ [])

-- a text determines the chain and the record
text_back : (a b x y : List ℕ) → length a ≡ 32 → length b ≡ 32 → link_text a x ≡ link_text b y → (a ≡ b) × (x ≡ y)
unfolding link_text size_code
text_back a b x y long_a long_b same =
    let behind_a : List ℕ = size_code (length x) ++ x in
    let behind_b : List ℕ = size_code (length y) ++ y in
    let behind : behind_a ≡ behind_b = sym (drop_at a behind_a 32 long_a) ∙ (ap (drop 32) same ∙ drop_at b behind_b 32 long_b) in
    (sym (take_at a behind_a 32 long_a) ∙ (ap (take 32) same ∙ take_at b behind_b 32 long_b), ap (drop 8) behind)

apart : (a b : List ℕ) → (a ≡ b) ⊎ (a ≢ b)
apart a b =
    elim (bytes_eq a b) as (λ t. bytes_eq a b ≡ t → (a ≡ b) ⊎ (a ≢ b)) [
      | true ↦ λ t. inl ((bytes_eq-Decides a b).0 t)
      | false ↦ λ t. inr (λ same. never (sym ((bytes_eq-Decides a b).1 same) ∙ t))
    ] refl
  where
    never : true ≡ false → ⊥
    never e = cc

here : (x : List ℕ) (xs : List (List ℕ)) → Contains (x ∷ xs) x
here x xs = (0, omega arith, refl)

behind : (x : List ℕ) (xs : List (List ℕ)) (y : List ℕ) → Contains xs y → Contains (x ∷ xs) y
behind x xs y c = (suc c.0, omega (arith, c.1), c.2)

later : (a b : List ℕ) (xs ys : List (List ℕ)) → Collide xs ys → Collide (a ∷ xs) (b ∷ ys)
later a b xs ys c = (c.0, c.1, behind a xs c.0 c.2, behind b ys c.1 c.3, c.4, c.5)

determined_from : (a b : List ℕ) (xs ys : List (List ℕ)) → length a ≡ 32 → length b ≡ 32 → length xs ≡ length ys → fold link a xs ≡ fold link b ys
    → ((a ≡ b) × (xs ≡ ys)) ⊎ Collide (texts_from a xs) (texts_from b ys)
determined_from a b [] [] long_a long_b count same = inl (same, refl)
determined_from a b [] (y ∷ ys) long_a long_b count same = absurd (omega (arith, count))
determined_from a b (x ∷ xs) [] long_a long_b count same = absurd (omega (arith, count))
determined_from a b (x ∷ xs) (y ∷ ys) long_a long_b count same =
    ⊎_elim
    (λ rest. ⊎_elim
    (λ text. let back = text_back a b x y long_a long_b text in inl (back.0, ap (λ (z : List ℕ). z ∷ xs) back.1 ∙ ap (λ (zs : List (List ℕ)). y ∷ zs) rest.1))
    (λ differ. inr (link_text a x, link_text b y, here (link_text a x) (texts_from (link a x) xs), here (link_text b y) (texts_from (link b y) ys), differ, rest.0))
    (apart (link_text a x) (link_text b y)))
    (λ collide. inr (later (link_text a x) (link_text b y) (texts_from (link a x) xs) (texts_from (link b y) ys) collide))
    (determined_from (link a x) (link b y) xs ys (length-sha256 (link_text a x)) (length-sha256 (link_text b y)) (omega (arith, count)) same)

pub chains_determine : ChainsDetermine
unfolding chain
chains_determine xs ys count same = ⊎_elim (λ both. inl both.1) (λ collide. inr collide) (determined_from no_chain no_chain xs ys refl refl count same)

pub prefixes_determine : PrefixesDetermine
prefixes_determine xs ys fits same = chains_determine xs (take (length xs) ys) (omega (arith, fits, length-take (length xs) ys)) same
