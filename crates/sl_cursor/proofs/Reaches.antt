-- Which of two ways counts.
use Rattle.std.proofs.Common.{◌≡◌, ℕ, ◌≤◌, Bool, true, false, List, refl, sym, ap, ◌∙◌, arith}
use Rattle.std.specs.Prelude.{Option, Some, ◌==◌, nat_lt}
use Rattle.std.specs.Option.{option_map}
use Rattle.std.proofs.lemmas.Bool.Decides.{nat_tests}
use Rattle.def_reading.specs.Cursor as lists
use Rattle.sl_cursor.specs.Seen.{reach_in, told_in}
use Rattle.sl_cursor.specs.declared.cursor.FarthestFailure.{FarthestFailure}

pub as_far : (source : List ℕ) (this other : FarthestFailure) → this.many ≤ other.many → this.many ≡ other.many
    → lists.is_later (told_in source this.told) (told_in source other.told) ≡ lists.counts_more (reach_in source this) (reach_in source other)
as_far source this other less same =
    let no' : nat_lt other.many this.many ≡ false = grind (arith, nat_tests) in
    let yes' : (this.many == other.many) ≡ true = grind (arith, nat_tests) in
    rw no' (rw yes' refl)

pub further_is : (source : List ℕ) (b : Bool) (this other : Option FarthestFailure) (one another : FarthestFailure) → this ≡ Some one → other ≡ Some another
    → b ≡ lists.counts_more (reach_in source another) (reach_in source one)
    → lists.further_by b (reach_in source one) (reach_in source another) ≡ lists.further (option_map (reach_in source) this) (option_map (reach_in source) other)
further_is source b this other one another t o h =
    ap (λ b. lists.further_by b (reach_in source one) (reach_in source another)) h
    ∙ sym (ap (λ o. lists.further (option_map (reach_in source) o) (option_map (reach_in source) other)) t
    ∙ ap (λ o. lists.further (Some (reach_in source one)) (option_map (reach_in source) o)) o)
