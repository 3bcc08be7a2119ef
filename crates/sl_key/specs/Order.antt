-- The order of keys: module, path, kind in the order of the table of kinds, arguments.
use Rattle.std.specs.Prelude.{ℕ, List, []}
use Rattle.std.specs.Cmp.Lexicographic.{slice_cmp}
use Rattle.std.specs.Ordering.{nat_cmp, on, then_cmp}
use Rattle.std.specs.declared.cmp.Ordering.{Ordering}
use Rattle.sl_key.specs.declared.key.Key.{Key}
use Rattle.sl_key.specs.declared.key.Kind.{Kind}
use Rattle.sl_key.specs.declared.key.Kind.TheVariants.{Syntax, Imports, Alias, Const}
use Rattle.sl_key.specs.declared.path.DeclPath.{DeclPath}
use Rattle.sl_key.specs.declared.path.Part.{Part}
use Rattle.sl_key.specs.declared.value.Ty.{Ty}
use Rattle.sl_key.specs.declared.value.Ty.TheVariants as type

-- a key of what a path leads to, without type arguments
abbrev pub path_key : Kind → DeclPath → Key
path_key kind path = record { path = path; kind = kind; args = [] }

-- a key of a module, whose path has no names
abbrev pub module_key : Kind → List ℕ → Key
module_key kind «module» = path_key kind (record { «module» = «module»; parts = [] })

-- the module of a key
abbrev pub module_of : Key → List ℕ
module_of key = key.path.module

-- the path of a key in its module; a module's own keys have the path of nothing
abbrev pub parts_of : Key → List Part
parts_of key = key.path.parts

-- the place of a kind in the table of kinds
abbrev pub kind_rank : Kind → ℕ
kind_rank Syntax = 0
kind_rank Imports = 1
kind_rank Alias = 2
kind_rank Const = 3

-- the place of a type among the types
abbrev pub type_rank : Ty → ℕ
type_rank type.Bool = 0
type_rank type.Int = 1
type_rank type.Uint = 2

-- steps of a path are ordered by their names, and then by their numbers
abbrev pub part_cmp : Part → Part → Ordering
part_cmp = then_cmp (on (λ part. part.name) (slice_cmp nat_cmp)) (on (λ part. part.nth) nat_cmp)

-- kinds are ordered as in the table of kinds
abbrev pub kind_cmp : Kind → Kind → Ordering
kind_cmp = on kind_rank nat_cmp

-- types are ordered by their forms
abbrev pub type_cmp : Ty → Ty → Ordering
type_cmp = on type_rank nat_cmp

-- the order of keys
abbrev pub key_cmp : Key → Key → Ordering
key_cmp =
    then_cmp (on module_of (slice_cmp nat_cmp))
    (then_cmp (on parts_of (slice_cmp part_cmp))
    (then_cmp (on (λ key. key.kind) kind_cmp) (on (λ key. key.args) (slice_cmp type_cmp))))
