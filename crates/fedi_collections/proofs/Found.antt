-- What was found of a page, and the text of what was written.
use Rattle.std.proofs.Common.{◌≡◌, ℕ, ◌*◌, ◌≤◌, arith, nat_le, false, true, List, [], ◌++◌, None, Some, drop, map, reverse, slice_get, take, refl, ap, subst, ◌∙◌}
use Rattle.std.specs.Prelude.{if◌then◌else◌, option_map}
use Rattle.std.proofs.lemmas.Bool.Decides.{nat_tests}
use Rattle.json.specs.Print.{print}
use Rattle.json.specs.Tree.{json_tokens}
use Rattle.json.specs.Written.{Written}
use Rattle.serde_json.specs.Data.{Data}
use Rattle.serde_json.specs.Written.{compact_text, outline}
use Rattle.serde_json.proofs.Texts.{print-outline}
use Rattle.fedi_model.specs.AnswerKinds.{Document, Refuse}
use Rattle.fedi_model.specs.Documents.{collection_id, item_form, page_form}
use Rattle.fedi_model.specs.Memory.{is_refused}
use Rattle.fedi_model.specs.Reading.{items_answer}
use Rattle.fedi_model.specs.Replies.{reply_of}
use Rattle.fedi_model.specs.declared.reply.Reply.{Reply}
use Rattle.fedi_model.specs.declared.ask.PageAsk.TheVariants.{Page}
use Rattle.fedi_town.specs.declared.act.Act.{Act}
use Rattle.fedi_town.specs.declared.caller.Caller.{Caller}
use Rattle.fedi_town.specs.declared.caller.Which.{Which}
use Rattle.fedi_town.specs.Collections.{highest, items, page_of}
use Rattle.fedi_town.specs.Towns.{Town}
use Rattle.fedi_town.specs.declared.refusal.Refusal.TheVariants.{NotFound}
use Rattle.fedi_collections.specs.Drafts.{page_reply}
use Rattle.fedi_collections.specs.Pages.{page_at, page_or_none, total_of}
use Rattle.fedi_objects.specs.Writing.{IsWritten}

-- a writer that began with nothing has the text of the one value that was written
pub text_written : (d : Data) (x y : Written) (text : List ℕ) → x.before ≡ [] → x.tokens ≡ [] → IsWritten d x y → text ≡ y.before ++ print y.tokens
    → text ≡ compact_text d
text_written d x y text no_text no_tokens written is =
    is ∙ ap (λ before. before ++ print y.tokens) (written.before ∙ no_text)
    ∙ ap print (written.tokens ∙ ap (λ ts. ts ++ json_tokens (outline d)) no_tokens) ∙ print-outline d

-- what was found for the items at these positions is the page, which is not above the highest
pub page_found : (t u : Town) (c : Caller) (which : Which) (id : List ℕ) (k total : ℕ) (places : List ℕ) (reply : Reply) → u ≡ t
    → total ≡ total_of t c which id → k ≤ highest total
    → map (slice_get t.acts) places ≡ map Some (take 20 (drop (20 * k) (items t c which id)))
    → ((xs : List Act) → map (slice_get u.acts) places ≡ map Some xs
    → reply ≡ page_reply (page_form (collection_id which id) k total (map (item_form u which) (reverse xs))))
    → Some reply ≡ option_map page_reply (page_or_none t c which id k)
page_found t u c which id k total places reply same total_is within at found =
    let here = subst (λ (v : Town). (xs : List Act) → map (slice_get v.acts) places ≡ map Some xs
    → reply ≡ page_reply (page_form (collection_id which id) k total (map (item_form v which) (reverse xs)))) same found in
    let e = here (take 20 (drop (20 * k) (items t c which id))) at in
    let low : k ≤ highest (total_of t c which id) = subst (λ n. k ≤ highest n) total_is within in
    let le : nat_le k (highest (total_of t c which id)) ≡ true = grind (arith, nat_tests) in
    ap Some (e ∙ ap (λ n. page_reply (page_form (collection_id which id) k n (map (item_form t which) (page_of k (items t c which id))))) total_is)
    ∙ rw le refl

-- if there is a page, it is the answer to who asks for it
page_there : (t : Town) (c : Caller) (which : Which) (id : List ℕ) (k : ℕ) (reply : Reply) → Some reply ≡ option_map page_reply (page_or_none t c which id k)
    → (reply ≡ reply_of (items_answer t c which id (Page k))) × (is_refused (items_answer t c which id (Page k)) ≡ false)
unfolding items_answer
page_there t c which id k reply is =
    elim (nat_le k (highest (total_of t c which id))) as (λ b. Some reply ≡ option_map page_reply (if b then Some (page_at t c which id k) else None)
    → (reply ≡ reply_of (if b then Document (page_at t c which id k) else Refuse NotFound))
    × (is_refused (if b then Document (page_at t c which id k) else Refuse NotFound) ≡ false)) [
      | true ↦ λ found. (cc, refl)
      | false ↦ λ found. absurd cc
    ] is

pub page_answered : (t : Town) (c : Caller) (which : Which) (id : List ℕ) (k : ℕ) (reply : Reply) → Some reply ≡ option_map page_reply (page_or_none t c which id k)
    → reply ≡ reply_of (items_answer t c which id (Page k))
page_answered t c which id k reply is = (page_there t c which id k reply is).0

-- and no refusal
pub page_shown : (t : Town) (c : Caller) (which : Which) (id : List ℕ) (k : ℕ) (reply : Reply) → Some reply ≡ option_map page_reply (page_or_none t c which id k)
    → is_refused (items_answer t c which id (Page k)) ≡ false
page_shown t c which id k reply is = (page_there t c which id k reply is).1
