-- Where an expression stands, the machine comes to it.
use Rattle.std.proofs.Common.{◌≡◌, ◌⊎◌, inl, inr, ℕ, suc, ◌≤◌, Bool, true, false, List, [], ◌∷◌, ◌++◌, refl, ap, subst, ◌∙◌, codes, arith, le_refl, append-nil, append_assoc}
use Rattle.std.specs.Prelude.{Option, None, nat_le, replicate}
use Rattle.std.proofs.lemmas.Bool.Decides.{nat_tests}
use Rattle.std.proofs.lemmas.Bool.{false≢true}
use Rattle.def_token.specs.Lexical.{Token}
use Rattle.def_tree.specs.ExprTree as tree
use Rattle.def_tree.specs.ExprTree.{ExprTree, ExprTrees, NoExprs, MoreExprs}
use Rattle.def_tree.specs.Expressions.{TakesNone, IsPrimary, of_number, of_true, of_false, of_itself, of_name, of_generic, of_functional_cast, of_own_type, of_group, IsPostfix, of_primary, of_call, of_index, of_member, IsArguments, no_arguments, some_arguments, IsExprList, last_expr, more_exprs, IsUnary, of_operator, of_cast, of_postfix, IsBinary, of_unary, of_operands, IsExpr, of_binary, of_condition}
use Rattle.def_tree.specs.Limits.{Nesting, Entry, plain, opens, operator_tokens, expr_entries, exprs_entries, more_exprs_entries, in_bracket}
use Rattle.def_tree.specs.Operator.{Operator, operator_text, level, sign_at}
use Rattle.def_tree.specs.Statements.{begins_with}
use Rattle.def_tree.specs.Symbol.{symbol, is_sign, Is, IsName}
use Rattle.def_tree.specs.TypeTree.{NoTypes}
use Rattle.law_tree.proofs.Symbols.{is_sign-true}
use Rattle.law_tree.proofs.TypeEnds.{args_begin}
use Rattle.def_reading.specs.Cursor.{Told, At, passed, noted, FarthestFailure, reach_at}
use Rattle.def_reading.specs.Machine.{Frame, Prefix, Casting, Left, Asked, Chosen, InGroup, InFunctionalCast, InCall, InIndex, Mode, Expected, Value, Dotted, Converting, Config, On, nesting, bracket_opens, unary_opens, Held, bound, whole, exprs_of, stands, name_by, may_assign, assign_by, operator_on, colon_by, comma_by, closing_by, index_by, asked_by, step}
use Rattle.law_types.proofs.AheadComplete.{passed-append}
use Rattle.law_types.proofs.AheadSound.{taken_found, none_missing}
use Rattle.law_machine.proofs.MachineSigns.{scalar_start, unary_start, operator_not_behind, operator_is, operator_passes}

abbrev pub config : List Frame → Mode → ℕ → Option Told → List Token → Config
config frames mode at limit tokens = record { frames = frames; mode = mode; place = At at limit tokens }

-- a call's arguments behind those that are done
abbrev pub appended : List ExprTree → ExprTrees → ExprTrees
appended [] exprs = exprs
appended (done ∷ more) exprs = MoreExprs done (appended more exprs)

pub appended_last : (done : List ExprTree) (expr : ExprTree) → exprs_of (done ++ expr ∷ []) ≡ appended done (MoreExprs expr NoExprs)
appended_last [] expr = refl
appended_last (first ∷ done) expr = ap (MoreExprs first) (appended_last done expr)

pub appended_more : (done : List ExprTree) (expr : ExprTree) (exprs : ExprTrees) → appended (done ++ expr ∷ []) exprs ≡ appended done (MoreExprs expr exprs)
appended_more [] expr exprs = refl
appended_more (first ∷ done) expr exprs = ap (MoreExprs first) (appended_more done expr exprs)

-- no form around is complete before an operator of this level or a tighter one
abbrev pub Firm : ℕ → List Frame → Type 0
Firm least frames = (l : ℕ) → least ≤ l → (value : ExprTree) → bound l value frames ≡ (value, frames)

left_firm : (left : ExprTree) (operator : Operator) (token : Token) (frames : List Frame) → Firm (suc (level operator)) (Left left operator token ∷ frames)
left_firm left operator token frames l h value =
    let above : nat_le l (level operator) ≡ false = grind (arith, nat_tests, h) in rw above refl

left_binds : (left value : ExprTree) (operator : Operator) (token : Token) (frames : List Frame) (l : ℕ) → l ≤ level operator
    → bound l value (Left left operator token ∷ frames) ≡ bound l (tree.Binary operator token left value) frames
left_binds left value operator token frames l h =
    let below : nat_le l (level operator) ≡ true = grind (arith, nat_tests, h) in rw below refl

more_entries : {tokens rest : List Token} {exprs : ExprTrees} (around : Nesting) → IsExprList tokens exprs rest → more_exprs_entries around exprs ≡ plain ∷ exprs_entries around exprs
more_entries around (last_expr e) = refl
more_entries around (more_exprs e c l) = refl

abbrev Always : ℕ → Type 0
Always l = Unit {0}

abbrev UpTo : ℕ → ℕ → Type 0
UpTo least l = l ≤ least

abbrev Never : ℕ → Type 0
Never l = ⊥

module _ (around : Nesting) (long : Option Told) where
  -- one machine leads to another
  pub data Leads : Config → Config → Type 0 where
    here : {c : Config} → Leads c c
    through : {c e : Config} (other : Option FarthestFailure) (d : Config) → step around long c ≡ On other d → Leads d e → Leads c e

  -- one step, with no other way
  abbrev pub goes : {c e : Config} (d : Config) → step around long c ≡ On None d → Leads d e → Leads c e
  goes d s p = through None d s p

  pub leads_on : {c d e : Config} → Leads c d → Leads d e → Leads c e
  leads_on here q = q
  leads_on (through other d s p) q = through other d s (leads_on p q)

  pub leads_to : {c d e : Config} → Leads c d → step around long d ≡ On None e → Leads c e
  leads_to {e = e} p s = leads_on p (goes e s here)

  -- the machine comes to the operand
  pub record Comes (frames : List Frame) (at : ℕ) (limit : Option Told) (tokens : List Token) (entries : List Entry) (value : ExprTree) (rest : List Token) : Type 0 where
    pub at' : ℕ
    pub limit' : Option Told
    pub leads : Leads (config frames Expected at limit tokens) (config frames (Value value) at' limit' rest)
    pub passes : passed entries (At at limit tokens) ≡ At at' limit' rest

  -- the machine comes to the end of an expression, and what is open there closes to it
  pub record Closes (Tight : ℕ → Type 0) (frames : List Frame) (at : ℕ) (limit : Option Told) (tokens : List Token) (expr : ExprTree) (rest : List Token) : Type 0 where
    pub frames' : List Frame
    pub value : ExprTree
    pub at' : ℕ
    pub limit' : Option Told
    pub leads : Leads (config frames Expected at limit tokens) (config frames' (Value value) at' limit' rest)
    pub passes : passed (expr_entries (nesting around frames) expr) (At at limit tokens) ≡ At at' limit' rest
    pub binds : (l : ℕ) → Tight l → bound l value frames' ≡ bound l expr frames
    pub wholes : whole value frames' ≡ whole expr frames

  abbrev pub ComesTo : List Frame → ℕ → Option Told → List Token → ExprTree → List Token → Type 0
  ComesTo frames at limit tokens expr rest = Comes frames at limit tokens (expr_entries (nesting around frames) expr) expr rest

  name_alone : (b : Bool) (frames : List Frame) (at : ℕ) (limit : Option Told) (name : Token) (rest : List Token) → begins_with "<" rest ≡ b → IsName name → TakesNone rest
      → ComesTo frames at limit (name ∷ rest) (tree.Name name NoTypes) rest
  name_alone true frames at limit name [] b h none = absurd (false≢true b)
  name_alone true frames at limit name (opening ∷ tokens) b h none =
      let missing = none_missing (nesting around frames).types (suc at) limit opening tokens (is_sign-true "<" (symbol opening) b) none in
      record {
        at' = suc at;
        limit' = limit;
        leads = through (reach_at long missing.at (At missing.at missing.limit missing.rest)) (config frames (Value (tree.Name name NoTypes)) (suc at) limit (opening ∷ tokens))
            (rw (h, b) (ap (λ look. name_by around long look frames name (At (suc at) limit (opening ∷ tokens))) missing.is)) here;
        passes = refl;
      }
  name_alone false frames at limit name rest b h none = record { at' = suc at; limit' = limit; leads = goes (config frames (Value (tree.Name name NoTypes)) (suc at) limit rest) (rw (h, b) refl) here; passes = refl }

  member_comes : (frames : List Frame) (at : ℕ) (limit : Option Told) (base : ExprTree) (dot name : Token) (rest : List Token) → Is "." dot ⊎ Is "::" dot → IsName name
      → Leads (config frames (Value base) at limit (dot ∷ name ∷ rest)) (config frames (Value (tree.Member base name)) (suc (suc at)) limit rest)
  member_comes frames at limit base dot name rest (inl d) n =
      goes (config frames (Dotted base) (suc at) limit (name ∷ rest)) (rw d refl) (goes (config frames (Value (tree.Member base name)) (suc (suc at)) limit rest) (rw n refl) here)
  member_comes frames at limit base dot name rest (inr d) n =
      goes (config frames (Dotted base) (suc at) limit (name ∷ rest)) (rw d refl) (goes (config frames (Value (tree.Member base name)) (suc (suc at)) limit rest) (rw n refl) here)

  -- the arguments of a call
  record Called (frames : List Frame) (callee : ExprTree) (opening : Token) (done : List ExprTree) (at : ℕ) (limit : Option Told) (tokens : List Token) (args : ExprTrees) (rest : List Token) : Type 0 where
    at' : ℕ
    limit' : Option Told
    leads : Leads (config (InCall callee opening done ∷ frames) Expected at limit tokens) (config frames (Value (tree.Call callee opening (appended done args))) at' limit' rest)
    passes : passed (exprs_entries (in_bracket (nesting around frames)) args ++ plain ∷ []) (At at limit tokens) ≡ At at' limit' rest

  pub operator_step : (value : ExprTree) (frames : List Frame) (at : ℕ) (limit : Option Told) (token : Token) (next' behind : List Token) (operator : Operator)
      → sign_at (token ∷ next') ≡ (codes (operator_text operator), behind)
      → (next : ℕ) → passed (replicate (operator_tokens operator) plain) (At at limit (token ∷ next')) ≡ At next limit behind
      → (left : ExprTree) (frames' : List Frame) → bound (level operator) value frames ≡ (left, frames')
      → step around long (config frames (Value value) at limit (token ∷ next'))
      ≡ On (assign_by around long (may_assign operator (whole value frames)) at (passed (replicate (operator_tokens operator) plain) (At at limit (token ∷ next'))))
      (config (Left left operator token ∷ frames') Expected next limit behind)
  operator_step value frames at limit token next' behind operator sign next passes left frames' held =
      rw (operator_not_behind token next' behind operator sign, operator_is token next' behind operator sign)
      (ap (λ (h : Held). operator_on operator h (assign_by around long (may_assign operator (whole value frames)) at (passed (replicate (operator_tokens operator) plain) (At at limit (token ∷ next')))) token
      (passed (replicate (operator_tokens operator) plain) (At at limit (token ∷ next')))) held
      ∙ ap (operator_on operator (left, frames') (assign_by around long (may_assign operator (whole value frames)) at (passed (replicate (operator_tokens operator) plain) (At at limit (token ∷ next')))) token) passes)

  mutual
    primary_comes : {tokens rest : List Token} {expr : ExprTree} → IsPrimary tokens expr rest → (frames : List Frame) (at : ℕ) (limit : Option Told) → ComesTo frames at limit tokens expr rest
    primary_comes (of_number {token = token} {rest = rest} h) frames at limit =
        record { at' = suc at; limit' = limit; leads = goes (config frames (Value (tree.Number token)) (suc at) limit rest) (rw h refl) here; passes = refl }
    primary_comes (of_true {token = token} {rest = rest} h) frames at limit =
        record { at' = suc at; limit' = limit; leads = goes (config frames (Value (tree.BooleanLiteral true token)) (suc at) limit rest) (rw h refl) here; passes = refl }
    primary_comes (of_false {token = token} {rest = rest} h) frames at limit =
        record { at' = suc at; limit' = limit; leads = goes (config frames (Value (tree.BooleanLiteral false token)) (suc at) limit rest) (rw h refl) here; passes = refl }
    primary_comes (of_itself {token = token} {rest = rest} h) frames at limit =
        record { at' = suc at; limit' = limit; leads = goes (config frames (Value (tree.Itself token)) (suc at) limit rest) (rw h refl) here; passes = refl }
    primary_comes (of_own_type {token = token} {rest = rest} h) frames at limit =
        record { at' = suc at; limit' = limit; leads = goes (config frames (Value (tree.OwnType token)) (suc at) limit rest) (rw h refl) here; passes = refl }
    primary_comes (of_name {token = name} {rest = rest} h none) frames at limit = name_alone (begins_with "<" rest) frames at limit name rest refl h none
    primary_comes (of_generic {token = name} {tokens = tokens} {rest = rest} {args = args} h t) frames at limit =
        let taken = taken_found t (nesting around frames).types (suc at) limit in
        record {
          at' = taken.at;
          limit' = taken.limit;
          leads = goes (config frames (Value (tree.Name name args)) taken.at taken.limit rest) (rw (h, args_begin t.arguments) (ap (λ look. name_by around long look frames name (At (suc at) limit tokens)) taken.found)) here;
          passes = taken.passes;
        }
    primary_comes (of_functional_cast {word = word} {token = token} {opening = opening} {closing = closing} {tokens = tokens} {rest = rest} {operand = operand} s h o inner c) frames at limit =
        let open' = InFunctionalCast word token ∷ frames in
        let limit' = noted limit (bracket_opens around frames) (suc at) opening in
        let e = expr_comes inner open' (λ l h value. refl) (suc (suc at)) limit' in
        record {
          at' = suc e.at';
          limit' = e.limit';
          leads = goes (config frames (Converting word token) (suc at) limit (opening ∷ tokens)) (rw (h, scalar_start word s) refl)
              (goes (config open' Expected (suc (suc at)) limit' tokens) (rw o refl)
              (leads_to e.leads (rw c (ap (λ held. closing_by held (closing ∷ rest) (At e.at' e.limit' (closing ∷ rest))) e.wholes))));
          passes = passed-append (expr_entries (nesting around open') operand) (plain ∷ []) (At (suc (suc at)) limit' tokens) ∙ ap (passed (plain ∷ [])) e.passes;
        }
    primary_comes (of_group {opening = opening} {closing = closing} {tokens = tokens} {rest = rest} {inner = expr} o inner c) frames at limit =
        let open' = InGroup opening ∷ frames in
        let limit' = noted limit (bracket_opens around frames) at opening in
        let e = expr_comes inner open' (λ l h value. refl) (suc at) limit' in
        record {
          at' = suc e.at';
          limit' = e.limit';
          leads = goes (config open' Expected (suc at) limit' tokens) (rw o refl)
              (leads_to e.leads (rw c (ap (λ held. closing_by held (closing ∷ rest) (At e.at' e.limit' (closing ∷ rest))) e.wholes)));
          passes = passed-append (expr_entries (nesting around open') expr) (plain ∷ []) (At (suc at) limit' tokens) ∙ ap (passed (plain ∷ [])) e.passes;
        }

    postfix_comes : {tokens rest : List Token} {expr : ExprTree} → IsPostfix tokens expr rest → (frames : List Frame) (at : ℕ) (limit : Option Told) → ComesTo frames at limit tokens expr rest
    postfix_comes (of_primary p) frames at limit = primary_comes p frames at limit
    postfix_comes (of_call {opening = opening} {tokens = tokens} {behind = behind} {rest = rest} {callee = callee} {args = args} f o a) frames at limit =
        let inside = in_bracket (nesting around frames) in
        let p = postfix_comes f frames at limit in
        let limit' = noted p.limit' (bracket_opens around frames) p.at' opening in
        let q = arguments_come a frames callee opening (suc p.at') limit' in
        record {
          at' = q.at';
          limit' = q.limit';
          leads = leads_on p.leads (goes (config (InCall callee opening [] ∷ frames) Expected (suc p.at') limit' behind) (rw o refl) q.leads);
          passes = passed-append (expr_entries (nesting around frames) callee) (opens inside.brackets ∷ (exprs_entries inside args ++ plain ∷ [])) (At at limit tokens)
              ∙ ap (passed (opens inside.brackets ∷ (exprs_entries inside args ++ plain ∷ []))) p.passes ∙ q.passes;
        }
    postfix_comes (of_index {opening = opening} {closing = closing} {tokens = tokens} {behind = behind} {rest = rest} {base = base} {index = index} f o inner c) frames at limit =
        let inside = in_bracket (nesting around frames) in
        let p = postfix_comes f frames at limit in
        let limit' = noted p.limit' (bracket_opens around frames) p.at' opening in
        let e = expr_comes inner (InIndex base opening ∷ frames) (λ l h value. refl) (suc p.at') limit' in
        record {
          at' = suc e.at';
          limit' = e.limit';
          leads = leads_on p.leads (goes (config (InIndex base opening ∷ frames) Expected (suc p.at') limit' behind) (rw o refl)
              (leads_to e.leads (rw c (ap (λ held. index_by held (closing ∷ rest) (At e.at' e.limit' (closing ∷ rest))) e.wholes))));
          passes = passed-append (expr_entries (nesting around frames) base) (opens inside.brackets ∷ (expr_entries inside index ++ plain ∷ [])) (At at limit tokens)
              ∙ ap (passed (opens inside.brackets ∷ (expr_entries inside index ++ plain ∷ []))) p.passes
              ∙ passed-append (expr_entries inside index) (plain ∷ []) (At (suc p.at') limit' behind) ∙ ap (passed (plain ∷ [])) e.passes;
        }
    postfix_comes (of_member {dot = dot} {name = name} {tokens = tokens} {rest = rest} {base = base} f d n) frames at limit =
        let p = postfix_comes f frames at limit in
        record {
          at' = suc (suc p.at');
          limit' = p.limit';
          leads = leads_on p.leads (member_comes frames p.at' p.limit' base dot name rest d n);
          passes = passed-append (expr_entries (nesting around frames) base) (plain ∷ plain ∷ []) (At at limit tokens) ∙ ap (passed (plain ∷ plain ∷ [])) p.passes;
        }

    arguments_come : {tokens rest : List Token} {args : ExprTrees} → IsArguments tokens args rest → (frames : List Frame) (callee : ExprTree) (opening : Token) (at : ℕ) (limit : Option Told)
        → Called frames callee opening [] at limit tokens args rest
    arguments_come (no_arguments {closing = closing} {rest = rest} c) frames callee opening at limit =
        let closes : is_sign ")" (symbol closing) ≡ true = rw c refl in
        record {
          at' = suc at;
          limit' = limit;
          leads = goes (config frames (Value (tree.Call callee opening NoExprs)) (suc at) limit rest) (rw (c, closes) refl) here;
          passes = refl;
        }
    arguments_come (some_arguments {closing = closing} {rest = rest} l c) frames callee opening at limit = list_comes l closing rest refl c frames callee opening [] at limit

    list_comes : {tokens mid : List Token} {args : ExprTrees} → IsExprList tokens args mid → (closing : Token) (rest : List Token) → mid ≡ closing ∷ rest → Is ")" closing
        → (frames : List Frame) (callee : ExprTree) (opening : Token) (done : List ExprTree) (at : ℕ) (limit : Option Told) → Called frames callee opening done at limit tokens args rest
    list_comes (last_expr {tokens = tokens} {rest = mid} {expr = expr} inner) closing rest is c frames callee opening done at limit =
        let inside = in_bracket (nesting around frames) in
        let e = subst (Closes Never (InCall callee opening done ∷ frames) at limit tokens expr) is
        (expr_comes inner (InCall callee opening done ∷ frames) (λ l h value. refl) at limit) in
        record {
          at' = suc e.at';
          limit' = e.limit';
          leads = leads_to e.leads (rw c (ap (λ held. closing_by held (closing ∷ rest) (At e.at' e.limit' (closing ∷ rest))) e.wholes
              ∙ ap (λ args. stands frames (tree.Call callee opening args) (At (suc e.at') e.limit' rest)) (appended_last done expr)));
          passes = ap (λ entries. passed (entries ++ plain ∷ []) (At at limit tokens)) (append-nil (expr_entries inside expr))
              ∙ passed-append (expr_entries inside expr) (plain ∷ []) (At at limit tokens) ∙ ap (passed (plain ∷ [])) e.passes;
        }
    list_comes (more_exprs {comma = comma} {tokens = tokens} {behind = behind} {rest = mid} {expr = expr} {exprs = exprs} inner h l) closing rest is c frames callee opening done at limit =
        let inside = in_bracket (nesting around frames) in
        let e = expr_comes inner (InCall callee opening done ∷ frames) (λ l h value. refl) at limit in
        let more = list_comes l closing rest is c frames callee opening (done ++ expr ∷ []) (suc e.at') e.limit' in
        record {
          at' = more.at';
          limit' = more.limit';
          leads = leads_on e.leads (goes (config (InCall callee opening (done ++ expr ∷ []) ∷ frames) Expected (suc e.at') e.limit' behind) (rw h (ap (λ held. comma_by held (comma ∷ behind) (At e.at' e.limit' (comma ∷ behind))) e.wholes))
              (subst (λ args. Leads (config (InCall callee opening (done ++ expr ∷ []) ∷ frames) Expected (suc e.at') e.limit' behind)
              (config frames (Value (tree.Call callee opening args)) more.at' more.limit' rest)) (appended_more done expr exprs) more.leads));
          passes = ap (λ entries. passed ((expr_entries inside expr ++ entries) ++ plain ∷ []) (At at limit tokens)) (more_entries inside l)
              ∙ ap (λ entries. passed entries (At at limit tokens)) (append_assoc (expr_entries inside expr) (plain ∷ exprs_entries inside exprs) (plain ∷ []))
              ∙ passed-append (expr_entries inside expr) (plain ∷ (exprs_entries inside exprs ++ plain ∷ [])) (At at limit tokens)
              ∙ ap (passed (plain ∷ (exprs_entries inside exprs ++ plain ∷ []))) e.passes ∙ more.passes;
        }

    unary_comes : {tokens rest : List Token} {expr : ExprTree} → IsUnary tokens expr rest → (frames : List Frame) (at : ℕ) (limit : Option Told) → Closes Always frames at limit tokens expr rest
    unary_comes (of_operator {operator = operator} {token = token} {tokens = tokens} h u) frames at limit =
        let e = unary_comes u (Prefix operator token ∷ frames) (suc at) (noted limit (unary_opens around frames) at token) in
        record {
          frames' = e.frames';
          value = e.value;
          at' = e.at';
          limit' = e.limit';
          leads = goes (config (Prefix operator token ∷ frames) Expected (suc at) (noted limit (unary_opens around frames) at token) tokens) (rw (h, unary_start operator) refl) e.leads;
          passes = e.passes;
          binds = e.binds;
          wholes = e.wholes;
        }
    unary_comes (of_cast {word = word} {opening = opening} {token = token} {closing = closing} {tokens = tokens} o s h c u) frames at limit =
        let limit' = noted limit (bracket_opens around frames) at opening in
        let opens' : is_sign "(" (symbol closing) ≡ false = rw c refl in
        let closes : is_sign ")" (symbol closing) ≡ true = rw c refl in
        let e = unary_comes u (Casting opening word token ∷ frames) (suc (suc (suc at))) limit' in
        record {
          frames' = e.frames';
          value = e.value;
          at' = e.at';
          limit' = e.limit';
          leads = goes (config (InGroup opening ∷ frames) Expected (suc at) limit' (token ∷ closing ∷ tokens)) (rw o refl)
              (goes (config (InGroup opening ∷ frames) (Converting word token) (suc (suc at)) limit' (closing ∷ tokens)) (rw (h, scalar_start word s) refl)
              (goes (config (Casting opening word token ∷ frames) Expected (suc (suc (suc at))) limit' tokens) (rw (opens', closes) refl) e.leads));
          passes = e.passes;
          binds = e.binds;
          wholes = e.wholes;
        }
    unary_comes (of_postfix {expr = expr} p) frames at limit =
        let e = postfix_comes p frames at limit in
        record { frames' = frames; value = expr; at' = e.at'; limit' = e.limit'; leads = e.leads; passes = e.passes; binds = λ l h. refl; wholes = refl }

    binary_comes : {least : ℕ} {tokens rest : List Token} {expr : ExprTree} → IsBinary least tokens expr rest → (frames : List Frame) → Firm least frames → (at : ℕ) (limit : Option Told)
        → Closes (UpTo least) frames at limit tokens expr rest
    binary_comes (of_unary u) frames firm at limit =
        let e = unary_comes u frames at limit in
        record { frames' = e.frames'; value = e.value; at' = e.at'; limit' = e.limit'; leads = e.leads; passes = e.passes; binds = λ l h. e.binds l tt; wholes = e.wholes }
    binary_comes (of_operands {least = least} {operator = operator} {token = token} {tokens = tokens} {after = after'} {behind = behind} {rest = rest} {left = left} {right = right} le p sign q) frames firm at limit =
        let n = nesting around frames in
        let l = binary_comes p frames (λ l h value. firm l (omega (arith, h, le)) value) at limit in
        let sign' = operator_passes operator l.at' l.limit' token after' behind sign in
        let r = binary_comes q (Left left operator token ∷ frames) (left_firm left operator token frames) sign'.next l.limit' in
        let held : bound (level operator) l.value l.frames' ≡ (left, frames) = l.binds (level operator) (le_refl (level operator)) ∙ firm (level operator) le left in
        record {
          frames' = r.frames';
          value = r.value;
          at' = r.at';
          limit' = r.limit';
          leads = leads_on l.leads (through _ (config (Left left operator token ∷ frames) Expected sign'.next l.limit' behind)
              (operator_step l.value l.frames' l.at' l.limit' token after' behind operator sign sign'.next sign'.is left frames held) r.leads);
          passes = passed-append (expr_entries n left) (replicate (operator_tokens operator) plain ++ expr_entries n right) (At at limit tokens)
              ∙ ap (passed (replicate (operator_tokens operator) plain ++ expr_entries n right)) l.passes
              ∙ passed-append (replicate (operator_tokens operator) plain) (expr_entries n right) (At l.at' l.limit' (token ∷ after'))
              ∙ ap (passed (expr_entries n right)) sign'.is ∙ r.passes;
          binds = λ k h. r.binds k (omega (arith, h, le)) ∙ left_binds left right operator token frames k (omega (arith, h, le));
          wholes = r.wholes;
        }

    pub expr_comes : {tokens rest : List Token} {expr : ExprTree} → IsExpr tokens expr rest → (frames : List Frame) → Firm 1 frames → (at : ℕ) (limit : Option Told)
        → Closes Never frames at limit tokens expr rest
    expr_comes (of_binary b) frames firm at limit =
        let e = binary_comes b frames firm at limit in
        record { frames' = e.frames'; value = e.value; at' = e.at'; limit' = e.limit'; leads = e.leads; passes = e.passes; binds = λ l h. absurd h; wholes = e.wholes }
    expr_comes (of_condition {question = question} {colon = colon} {tokens = tokens} {behind = behind} {after = after'} {rest = rest} {condition = condition} {yes' = yes'} {no' = no'} b q x c y) frames firm at limit =
        let n = nesting around frames in
        let p = binary_comes b frames firm at limit in
        let held : bound 1 p.value p.frames' ≡ (condition, frames) = p.binds 1 (le_refl 1) ∙ firm 1 (le_refl 1) condition in
        let z = expr_comes x (Asked condition question ∷ frames) (λ l h value. refl) (suc p.at') p.limit' in
        let w = expr_comes y (Chosen condition question yes' ∷ frames) (λ l h value. refl) (suc z.at') z.limit' in
        record {
          frames' = w.frames';
          value = w.value;
          at' = w.at';
          limit' = w.limit';
          leads = leads_on p.leads (goes (config (Asked condition question ∷ frames) Expected (suc p.at') p.limit' behind) (rw q (ap (λ (h : Held). asked_by h question (At p.at' p.limit' (question ∷ behind))) held))
              (leads_on z.leads (goes (config (Chosen condition question yes' ∷ frames) Expected (suc z.at') z.limit' after') (rw c (ap (λ (h : Held). colon_by h (colon ∷ after') (At z.at' z.limit' (colon ∷ after'))) z.wholes)) w.leads)));
          passes = passed-append (expr_entries n condition) (plain ∷ (expr_entries n yes' ++ plain ∷ expr_entries n no')) (At at limit tokens)
              ∙ ap (passed (plain ∷ (expr_entries n yes' ++ plain ∷ expr_entries n no'))) p.passes
              ∙ passed-append (expr_entries n yes') (plain ∷ expr_entries n no') (At (suc p.at') p.limit' behind)
              ∙ ap (passed (plain ∷ expr_entries n no')) z.passes ∙ w.passes;
          binds = λ l h. absurd h;
          wholes = w.wholes;
        }
