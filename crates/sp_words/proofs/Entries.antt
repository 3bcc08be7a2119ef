-- What is found among the entries of the table as the code has them.
use Rattle.std.proofs.Common.{◌≡◌, ◌∙◌, ℕ, Bool, true, false, cond, ◌==◌, Option, Some, List, [], ◌∷◌, map, refl, ap, sym, Bor}
use Rattle.std.specs.List.{find}
use Rattle.std.specs.Option.{option_map}
use Rattle.def_spirv.specs.Table as definition
use Rattle.def_spirv.specs.Table.{Entry}
use Rattle.sp_words.specs.View.{entry_of, kind_of, kinds_among}
use Rattle.sp_words.specs.declared.table.Kind.{Kind}

cond-map : {X Y : Type 0} (f : X → Y) (b : Bool) (x : X) (rest : Option X) →
    option_map f (cond b (Some x) rest) ≡ cond b (Some (f x)) (option_map f rest)
cond-map f true x rest = refl
cond-map f false x rest = refl

-- what an entry has behind its opcode, as the definitions have it
abbrev pub kinds : ℕ × Bor (List Kind) → List definition.Kind
kinds e = map kind_of e.1.now

pub find-entries : (op : ℕ) (entries : List (ℕ × Bor (List Kind))) →
    option_map kinds (find (λ e. e.0 == op) entries) ≡ kinds_among (map entry_of entries) op
find-entries op [] = refl
find-entries op (e ∷ entries) =
    cond-map kinds (e.0 == op) e (find (λ x. x.0 == op) entries)
    ∙ ap (cond (e.0 == op) (Some (kinds e))) (find-entries op entries)
    ∙ sym (cond-map (λ (x : Entry). x.kinds) (e.0 == op) (entry_of e)
    (find (λ x. x.opcode == op) (map entry_of entries)))
