-- The order of diagnostics is total.
use Rattle.std.specs.Prelude.{refl}
use Rattle.std.specs.Cmp.{IsTotalOrder, IsEquivalence, IsPartialOrder, eq_by_cmp_equiv, then_total, on_total, nat_cmp_total, po}
use Rattle.std.specs.Cmp.Lexicographic.{on_texts}
use Rattle.std.specs.Ordering.{as_partial_cmp, eq_by_cmp}
use Rattle.def_slang.specs.Diagnostic.{message}
use Rattle.def_check.specs.Reply.{diag_cmp, place_cmp, rank_of, site_cmp, site_module, site_place}

place_total : IsTotalOrder place_cmp
place_total =
    then_total (on_total (λ place. place.line) nat_cmp_total)
    (on_total (λ place. place.column) nat_cmp_total)

site_total : IsTotalOrder site_cmp
site_total =
    then_total (on_total rank_of nat_cmp_total)
    (then_total (on_texts site_module) (on_total site_place place_total))

-- the order of diagnostics is total
pub diag_total : IsTotalOrder diag_cmp
diag_total =
    then_total (on_total (λ told. told.site) site_total)
    (then_total (on_total (λ told. told.code) nat_cmp_total)
    (on_texts (λ told. message told.code told.args)))

-- comparing equal is an equivalence
pub diag_equivalence : IsEquivalence (eq_by_cmp diag_cmp)
diag_equivalence = eq_by_cmp_equiv diag_total

-- and the order is one up to it
pub diag_partial : IsPartialOrder (eq_by_cmp diag_cmp) (as_partial_cmp diag_cmp)
diag_partial = po diag_total (λ x y. refl)
