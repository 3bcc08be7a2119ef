use Rattle.std.proofs.Common.{◌∙◌, ◌≡◌, ◌+◌, ◌/◌, ◌++◌, ◌==◌, ℕ, ap, length, take, drop, not, nat_eq, Some, None, if◌then◌else◌}
use Rattle.std.specs.List.{take_while}
use Rattle.def_spirv.specs.Words.{text_words}
use lib.Pointwise.{pointwise}
use Rattle.sp_places.proofs.Gathering.{behind-text}
use Rattle.sp_places.proofs.operands.behind_text.Goals as goal

pub returns : goal.returns
returns c =
    let words = c.args.words.now in
    let text = c.text_in-text.result.now in
    let count = length text / 4 + 1 in
    let front : c.as_slice-2.result.now ≡ text_words text =
    c.as_slice-2.ensures ∙ c.in_ok-push_text.ensures.ok ∙ ap (λ s. s ++ text_words text) c.new-spelled.ensures in
    let is = c.text_in-text.ensures ∙ ap (take_while (λ (b : ℕ). not (b == 0))) (c.as_slice.ensures ∙ c.in_ok-bytes.ensures) in
    c.behind_front.ensures
    ∙ ap (λ s. if pointwise nat_eq (take count words) s then Some (drop count words) else None) front
    ∙ behind-text words text is
