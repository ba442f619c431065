-- What a caller sees of the collections that members make is a function of what the caller is shown.
use Rattle.std.proofs.Common.{◌≡◌, ℕ, Bool, List, [], ◌∷◌, refl, sym, ap, ◌∙◌}
use Rattle.std.specs.Prelude.{map, filter}
use Rattle.std.specs.List.{fold}
use Rattle.std.specs.Str.{bytes_eq}
use Rattle.fedi_town.specs.Boards.{board_id, boards, boards_by, is_filled_by, is_pin, is_pin_of, opens_board, pinned, pinned_by, target_key, with_pin}
use Rattle.fedi_laws.proofs.Alike.{IsAlike, shown_alike}
use Rattle.fedi_laws.specs.Statements.{BoardsTellWhatIsShown}
use Rattle.fedi_town.proofs.Lists.{filter-agree, filter-through, map-through}
use Rattle.fedi_town.specs.Collections.{object_key}
use Rattle.fedi_town.specs.Lists.{firsts}
use Rattle.fedi_town.specs.Seeing.{seen}
use Rattle.fedi_town.specs.Showing.{sight_of, shown_activity, view}
use Rattle.fedi_town.specs.Towns.{Town, is_by}
use Rattle.fedi_town.specs.declared.act.Act.{Act}
use Rattle.fedi_town.specs.declared.caller.Caller.{Caller}

-- ---- an activity and what is shown of it

shown_target : (t : Town) (c : Caller) (x : Act) → (sight_of t c x).activity.target ≡ x.activity.target
unfolding sight_of shown_activity
shown_target t c x = refl

pin_alike : (t : Town) (c : Caller) (author : List ℕ) (x : Act) → is_pin author (sight_of t c x) ≡ is_pin author x
unfolding is_pin is_by
pin_alike t c author x = let k = shown_alike t c x in rw (k.author, k.kind, k.about) refl

pin_of_alike : (t : Town) (c : Caller) (author board : List ℕ) (x : Act) → is_pin_of author board (sight_of t c x) ≡ is_pin_of author board x
unfolding is_pin_of
pin_of_alike t c author board x = rw (pin_alike t c author x, shown_target t c x) refl

opens_alike : (t : Town) (c : Caller) (author : List ℕ) (x : Act) → opens_board author (sight_of t c x) ≡ opens_board author x
unfolding opens_board
opens_alike t c author x = rw (pin_alike t c author x, (shown_alike t c x).kind, shown_target t c x) refl

target_alike : (t : Town) (c : Caller) (x : Act) → target_key (sight_of t c x) ≡ target_key x
target_alike t c x = rw (shown_target t c x) refl

with_alike : (t : Town) (c : Caller) (ids : List (List ℕ)) (x : Act) → with_pin ids (sight_of t c x) ≡ with_pin ids x
with_alike t c ids x = let k = shown_alike t c x in rw (k.kind, k.about) refl

-- ---- a list of them

fold-through : {A B S : Type 0} (f : A → B) (g : S → B → S) (h : S → A → S) → ((s : S) (x : A) → g s (f x) ≡ h s x) → (s : S) (xs : List A) → fold g s (map f xs) ≡ fold h s xs
fold-through f g h same s [] = refl
fold-through {A} {B} {S} f g h same s (x ∷ xs) = ap (λ (u : S). fold g u (map f xs)) (same s x) ∙ fold-through f g h same (h s x) xs

shown_pinned : (t : Town) (c : Caller) (author board : List ℕ) (xs : List Act) → pinned_by author board (map (sight_of t c) xs) ≡ pinned_by author board xs
shown_pinned t c author board xs =
    ap (fold with_pin []) (filter-through (sight_of t c) (is_pin_of author board) (is_pin_of author board) (pin_of_alike t c author board) xs)
    ∙ fold-through (sight_of t c) with_pin with_pin (with_alike t c) [] (filter (is_pin_of author board) xs)

shown_filled : (t : Town) (c : Caller) (author : List ℕ) (xs : List Act) (board : List ℕ) → is_filled_by author (map (sight_of t c) xs) board ≡ is_filled_by author xs board
shown_filled t c author xs board = rw (shown_pinned t c author board xs) refl

shown_boards : (t : Town) (c : Caller) (author : List ℕ) (xs : List Act) → boards_by author (map (sight_of t c) xs) ≡ boards_by author xs
shown_boards t c author xs =
    let of_shown : List (List ℕ) = firsts bytes_eq (map target_key (filter (opens_board author) (map (sight_of t c) xs))) in
    filter-agree (is_filled_by author (map (sight_of t c) xs)) (is_filled_by author xs) (shown_filled t c author xs) of_shown
    ∙ ap (λ (ys : List (List ℕ)). filter (is_filled_by author xs) (firsts bytes_eq ys))
    (ap (map target_key) (filter-through (sight_of t c) (opens_board author) (opens_board author) (opens_alike t c author) xs)
    ∙ map-through (sight_of t c) target_key target_key (target_alike t c) (filter (opens_board author) xs))

pub view_pinned : (t : Town) (c : Caller) (author slug : List ℕ) → pinned t c author slug ≡ pinned_by author (board_id author slug) (view t c)
view_pinned t c author slug = sym (shown_pinned t c author (board_id author slug) (seen t c))

pub view_boards : (t : Town) (c : Caller) (author : List ℕ) → boards t c author ≡ boards_by author (view t c)
view_boards t c author = sym (shown_boards t c author (seen t c))

pub boards_are_shown : BoardsTellWhatIsShown
boards_are_shown = record { pinned = view_pinned; boards = view_boards }
