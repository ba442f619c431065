-- The part of a collection that a query asks for (ActivityStreams 2.0 Core, section 5).
use Rattle.std.specs.Prelude.{ℕ, Bool, ◌&&◌, nat_le, List, [], ◌∷◌, length, codes, if◌then◌else◌}
use Rattle.std.specs.Char.{is_ascii_digit}
use Rattle.std.specs.List.{list_all}
use Rattle.std.specs.Str.Parse.{digits_value}
use Rattle.fedi_model.specs.declared.ask.PageAsk.{PageAsk}
use Rattle.fedi_model.specs.declared.ask.PageAsk.TheVariants.{Summary, Page, Malformed}
use Rattle.fedi_model.specs.Queries.{values_of}

-- the number of a page is written with 1 to 10 digits
abbrev pub is_page_number : List ℕ → Bool
is_page_number text =
    nat_le 1 (length text) && nat_le (length text) 10 && list_all is_ascii_digit text

-- the page whose number is written in the text
abbrev pub page_of_text : List ℕ → PageAsk
page_of_text text = if is_page_number text then Page (digits_value 10 text) else Malformed

-- the part that these values of `page` ask for: without one, the collection without its items
abbrev pub part_of : List (List ℕ) → PageAsk
part_of [] = Summary
part_of (text ∷ []) = page_of_text text
part_of texts = Malformed

-- the part that a query asks for
unfoldable pub page_in : List ℕ → PageAsk
page_in query = part_of (values_of (codes "page") query)
