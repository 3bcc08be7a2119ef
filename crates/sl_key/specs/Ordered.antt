-- The order of keys is total, and tells keys apart.
use Rattle.std.specs.Prelude.{◌≡◌, refl}
use Rattle.std.proofs.Common.{ap, arith, ◌∙◌}
use Rattle.std.specs.Cmp.{IsTotalOrder, IsEquivalence, IsPartialOrder, eq_by_cmp_equiv, then_total, on_total, nat_cmp_total, po}
use Rattle.std.specs.Cmp.Lexicographic.{lists_total, on_texts}
use Rattle.std.specs.FinMap.{IsAntisymmetric, nat_cmp-IsAntisymmetric, slice_cmp-IsAntisymmetric}
use Rattle.std.specs.Ordering.{as_partial_cmp, eq_by_cmp, ordering_then}
use Rattle.std.specs.declared.cmp.Ordering.{Ordering}
use Rattle.std.specs.declared.cmp.Ordering.TheVariants.{Less, Equal, Greater}
use Rattle.sl_key.specs.declared.key.Key.{Key}
use Rattle.sl_key.specs.declared.key.Kind.{Kind}
use Rattle.sl_key.specs.declared.key.Kind.TheVariants.{Syntax, Imports, Alias, Const}
use Rattle.sl_key.specs.declared.path.DeclPath.{DeclPath}
use Rattle.sl_key.specs.declared.path.Part.{Part}
use Rattle.sl_key.specs.declared.value.Ty.{Ty}
use Rattle.sl_key.specs.declared.value.Ty.TheVariants as type
use Rattle.sl_key.specs.Order.{key_cmp, module_of, part_cmp, parts_of, kind_rank, type_cmp, type_rank}

-- the order of steps is total
pub part_total : IsTotalOrder part_cmp
part_total = then_total (on_texts (λ part. part.name)) (on_total (λ part. part.nth) nat_cmp_total)

-- the order of keys is total
pub key_total : IsTotalOrder key_cmp
key_total =
    then_total (on_texts module_of)
    (then_total (on_total parts_of (lists_total part_total))
    (then_total (on_total (λ key. key.kind) (on_total kind_rank nat_cmp_total))
    (on_total (λ key. key.args) (lists_total (on_total type_rank nat_cmp_total)))))

-- comparing equal is an equivalence
pub key_equivalence : IsEquivalence (eq_by_cmp key_cmp)
key_equivalence = eq_by_cmp_equiv key_total

-- and the order is one up to it
pub key_partial : IsPartialOrder (eq_by_cmp key_cmp) (as_partial_cmp key_cmp)
key_partial = po key_total (λ x y. refl)

-- orders in turn are equal where both are
both_equal : (r s : Ordering) → ordering_then r s ≡ Equal → (r ≡ Equal) × (s ≡ Equal)
both_equal Equal s h = (refl, h)
both_equal Less s h = cc
both_equal Greater s h = cc

part_apart : IsAntisymmetric part_cmp
part_apart x y h =
    let both = both_equal _ _ h in
    let name : x.name ≡ y.name = slice_cmp-IsAntisymmetric nat_cmp-IsAntisymmetric _ _ both.0 in
    let nth : x.nth ≡ y.nth = nat_cmp-IsAntisymmetric _ _ both.1 in
    ap (λ n. let part : Part = record { name = n; nth = x.nth } in part) name
    ∙ ap (λ n. let part : Part = record { name = y.name; nth = n } in part) nth

-- kinds at one place are the same
same_kind : (x y : Kind) → kind_rank x ≡ kind_rank y → x ≡ y
same_kind Syntax Syntax h = refl
same_kind Imports Imports h = refl
same_kind Alias Alias h = refl
same_kind Const Const h = refl
same_kind _ _ h = absurd (omega arith)

-- types at one place are the same
same_type : (x y : Ty) → type_rank x ≡ type_rank y → x ≡ y
same_type type.Bool type.Bool h = refl
same_type type.Int type.Int h = refl
same_type type.Uint type.Uint h = refl
same_type _ _ h = absurd (omega arith)

type_apart : IsAntisymmetric type_cmp
type_apart x y h = same_type x y (nat_cmp-IsAntisymmetric _ _ h)

path_apart : (x y : DeclPath) → x.module ≡ y.module → x.parts ≡ y.parts → x ≡ y
path_apart x y modules parts =
    ap (λ m. let path : DeclPath = record { «module» = m; parts = x.parts } in path) modules
    ∙ ap (λ p. let path : DeclPath = record { «module» = y.module; parts = p } in path) parts

-- keys of one path, kind and arguments are the same
same_key : (x y : Key) → x.path ≡ y.path → x.kind ≡ y.kind → x.args ≡ y.args → x ≡ y
same_key x y paths kinds args =
    ap (λ p. let key : Key = record { path = p; kind = x.kind; args = x.args } in key) paths
    ∙ ap (λ k. let key : Key = record { path = y.path; kind = k; args = x.args } in key) kinds
    ∙ ap (λ a. let key : Key = record { path = y.path; kind = y.kind; args = a } in key) args

-- keys that compare equal are the same key
pub key_apart : (x y : Key) → key_cmp x y ≡ Equal → x ≡ y
key_apart x y h =
    let modules = both_equal _ _ h in
    let parts = both_equal _ _ modules.1 in
    let others = both_equal _ _ parts.1 in
    same_key x y
    (path_apart x.path y.path (slice_cmp-IsAntisymmetric nat_cmp-IsAntisymmetric _ _ modules.0)
    (slice_cmp-IsAntisymmetric part_apart _ _ parts.0))
    (same_kind _ _ (nat_cmp-IsAntisymmetric _ _ others.0))
    (slice_cmp-IsAntisymmetric type_apart _ _ others.1)
