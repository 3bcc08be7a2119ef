-- Which name a module declares twice is told.
use Rattle.std.proofs.Common.{◌≡◌, Bool, true, false, List, [], ◌∷◌, ◌++◌, map, refl, sym, ap, subst, ◌∙◌, append-nil, append_assoc}
use Rattle.std.specs.Prelude.{Option, Some, None, if◌then◌else◌}
use Rattle.std.specs.List.{list_any}
use Rattle.def_token.specs.Lexical.{Token}
use Rattle.def_module.specs.Laws.{NamesAreTold}
use Rattle.def_module.specs.Scopes.{Declared, Scope, module_scopes}
use Rattle.def_module.specs.Twice.{clash, IsFree, IsSecond, AreFree, IsFirst, second_behind, second_name, first_some}

-- an element of a list with one more at its end is that one, or stands before it
data IsSplit (scope before behind : Scope) (this last : Declared) : Type 0 where
  at_end : before ≡ scope → this ≡ last → IsSplit scope before behind this last
  inside : (more : Scope) → scope ≡ before ++ this ∷ more → IsSplit scope before behind this last

not_empty : (before behind : Scope) (this : Declared) → [] ≡ before ++ this ∷ behind → ⊥
not_empty [] behind this h = cc
not_empty (first ∷ before) behind this h = cc

split_step : (first : Declared) (scope before behind : Scope) (this last : Declared) → IsSplit scope before behind this last → IsSplit (first ∷ scope) (first ∷ before) behind this last
split_step first scope before behind this last (at_end is same) = at_end (ap (λ xs. first ∷ xs) is) same
split_step first scope before behind this last (inside more is) = inside more (ap (λ xs. first ∷ xs) is)

split : (scope before behind : Scope) (this last : Declared) → scope ++ last ∷ [] ≡ before ++ this ∷ behind → IsSplit scope before behind this last
split [] [] behind this last h = at_end refl (cc)
split [] (first ∷ before) behind this last h = absurd (not_empty before behind this (cc))
split (one ∷ scope) [] behind this last h = let same : one ≡ this = cc in inside scope (ap (λ x. x ∷ scope) same)
split (one ∷ scope) (first ∷ before) behind this last h =
    let same : one ≡ first = cc in
    subst (λ x. IsSplit (one ∷ scope) (x ∷ before) behind this last) same (split_step one scope before behind this last (split scope before behind this last (cc)))

extend_by : (scope before behind : Scope) (this last : Declared) → IsFree scope → list_any (clash last) scope ≡ false → IsSplit scope before behind this last → list_any (clash this) before ≡ false
extend_by scope before behind this last free none (at_end is same) = ap (λ d. list_any (clash d) before) same ∙ ap (list_any (clash last)) is ∙ none
extend_by scope before behind this last free none (inside more is) = free before more this is

extend : (scope : Scope) (last : Declared) → IsFree scope → list_any (clash last) scope ≡ false → IsFree (scope ++ last ∷ [])
extend scope last free none before behind this h = extend_by scope before behind this last free none (split scope before behind this last h)

empty_free : IsFree []
empty_free before behind this h = absurd (not_empty before behind this h)

-- nothing is told of what clashes nowhere
none_by : (b : Bool) (this : Declared) (before more : Scope) → list_any (clash this) before ≡ b → IsFree before
    → (IsFree (before ++ this ∷ []) → second_behind (before ++ this ∷ []) more ≡ None → IsFree ((before ++ this ∷ []) ++ more))
    → (if b then Some this.name else second_behind (before ++ this ∷ []) more) ≡ None → IsFree (before ++ this ∷ more)
none_by true this before more is free next h = absurd (cc)
none_by false this before more is free next h = subst IsFree (append_assoc before (this ∷ []) more) (next (extend before this free is) h)

none_free : (before more : Scope) → IsFree before → second_behind before more ≡ None → IsFree (before ++ more)
none_free before [] free h = subst IsFree (sym (append-nil before)) free
none_free before (this ∷ more) free h = none_by (list_any (clash this) before) this before more refl free (none_free (before ++ this ∷ []) more) h

free_none : (before more : Scope) → IsFree (before ++ more) → second_behind before more ≡ None
free_none before [] free = refl
free_none before (this ∷ more) free =
    let none : list_any (clash this) before ≡ false = free before more this refl in
    rw none (free_none (before ++ this ∷ []) more (subst IsFree (sym (append_assoc before (this ∷ []) more)) free))

-- what is told clashes first
second_by : (b : Bool) (this : Declared) (before more : Scope) (name : Token) → list_any (clash this) before ≡ b → IsFree before
    → (IsFree (before ++ this ∷ []) → second_behind (before ++ this ∷ []) more ≡ Some name → IsSecond ((before ++ this ∷ []) ++ more) name)
    → (if b then Some this.name else second_behind (before ++ this ∷ []) more) ≡ Some name → IsSecond (before ++ this ∷ more) name
second_by true this before more name is free next h =
    record {
      before = before;
      this = this;
      behind = more;
      parts = refl;
      free = free;
      clashes = is;
      name_is = cc;
    }
second_by false this before more name is free next h =
    subst (λ scope. IsSecond scope name) (append_assoc before (this ∷ []) more) (next (extend before this free is) h)

some_second : (before more : Scope) (name : Token) → IsFree before → second_behind before more ≡ Some name → IsSecond (before ++ more) name
some_second before [] name free h = absurd (cc)
some_second before (this ∷ more) name free h =
    second_by (list_any (clash this) before) this before more name refl free (some_second (before ++ this ∷ []) more name) h

second_some : (before more behind : Scope) (this : Declared) → IsFree (before ++ more) → list_any (clash this) (before ++ more) ≡ true
    → second_behind before (more ++ this ∷ behind) ≡ Some this.name
second_some before [] behind this free clashes =
    let found : list_any (clash this) before ≡ true = ap (list_any (clash this)) (sym (append-nil before)) ∙ clashes in
    rw found refl
second_some before (one ∷ more) behind this free clashes =
    let none : list_any (clash one) before ≡ false = free before more one refl in
    let grown = append_assoc before (one ∷ []) more in
    rw none (second_some (before ++ one ∷ []) more behind this (subst IsFree (sym grown) free) (ap (list_any (clash this)) grown ∙ clashes))

second_told : (scope : Scope) (name : Token) → IsSecond scope name → second_name scope ≡ Some name
second_told scope name p = ap second_name p.parts ∙ second_some [] p.before p.behind p.this p.free p.clashes ∙ ap Some (sym p.name_is)

-- scopes
all_by : (o : Option Token) (scope : Scope) (scopes : List Scope) → second_name scope ≡ o → (first_some (map second_name scopes) ≡ None → AreFree scopes)
    → first_some (o ∷ map second_name scopes) ≡ None → IsFree scope × AreFree scopes
all_by None scope scopes is next h = (none_free [] scope empty_free is, next h)
all_by (Some name) scope scopes is next h = absurd (cc)

all_free : (scopes : List Scope) → first_some (map second_name scopes) ≡ None → AreFree scopes
all_free [] h = tt
all_free (scope ∷ scopes) h = all_by (second_name scope) scope scopes refl (all_free scopes) h

free_all : (scopes : List Scope) → AreFree scopes → first_some (map second_name scopes) ≡ None
free_all [] free = refl
free_all (scope ∷ scopes) free =
    let none : second_name scope ≡ None = free_none [] scope free.0 in
    rw none (free_all scopes free.1)

-- a scope in which nothing clashes, before others
later_first : (scope : Scope) (scopes : List Scope) (name : Token) → IsFree scope → IsFirst scopes name → IsFirst (scope ∷ scopes) name
later_first scope scopes name free p =
    record {
      earlier = scope ∷ p.earlier;
      scope = p.scope;
      later = p.later;
      parts = ap (λ others. scope ∷ others) p.parts;
      free = (free, p.free);
      second = p.second;
    }

first_by : (o : Option Token) (scope : Scope) (scopes : List Scope) (name : Token) → second_name scope ≡ o → (first_some (map second_name scopes) ≡ Some name → IsFirst scopes name)
    → first_some (o ∷ map second_name scopes) ≡ Some name → IsFirst (scope ∷ scopes) name
first_by None scope scopes name is next h = later_first scope scopes name (none_free [] scope empty_free is) (next h)
first_by (Some found) scope scopes name is next h =
    record {
      earlier = [];
      scope = scope;
      later = scopes;
      parts = refl;
      free = tt;
      second = some_second [] scope name empty_free (is ∙ h);
    }

some_first : (scopes : List Scope) (name : Token) → first_some (map second_name scopes) ≡ Some name → IsFirst scopes name
some_first [] name h = absurd (cc)
some_first (scope ∷ scopes) name h = first_by (second_name scope) scope scopes name refl (some_first scopes name) h

first_told : (earlier later : List Scope) (scope : Scope) (name : Token) → AreFree earlier → IsSecond scope name → first_some (map second_name (earlier ++ scope ∷ later)) ≡ Some name
first_told [] later scope name free p = let told : second_name scope ≡ Some name = second_told scope name p in rw told refl
first_told (one ∷ earlier) later scope name free p =
    let none : second_name one ≡ None = free_none [] one free.0 in
    rw none (first_told earlier later scope name free.1 p)

first_some_told : (scopes : List Scope) (name : Token) → IsFirst scopes name → first_some (map second_name scopes) ≡ Some name
first_some_told scopes name p = ap (λ all. first_some (map second_name all)) p.parts ∙ first_told p.earlier p.later p.scope name p.free p.second

pub names_told : NamesAreTold
names_told tree =
    record {
      twice = λ name. (some_first (module_scopes tree) name, first_some_told (module_scopes tree) name);
      once = (all_free (module_scopes tree), free_all (module_scopes tree));
    }
