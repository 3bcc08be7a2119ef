-- Tokens of a form before the end of tokens stand before whatever goes on there.
use Rattle.std.proofs.Common.{◌≡◌, Bool, true, false, List, ◌∷◌, ◌++◌, sym, subst}
use Rattle.def_token.specs.Lexical.{Token}
use Rattle.def_tree.specs.Limits.{Entry}
use Rattle.def_tree.specs.Symbol.{Symbol, End, symbol}
use Rattle.law_stmts.proofs.Alien.{Agree, at_mark, before, type_kept_is, expr_stays}
use Rattle.law_stmts.proofs.StmtAlien.{alien, other, stmts_stay}
use Rattle.def_decl_reading.specs.Form.{Front, AName, ANumber, ANarrow, AText, ASign, is_front, Form, Made, Never, Branch, Then, As, Listed, Many, Until, AType, AnExpr, Stmts, begins}
use Rattle.law_decls.proofs.Gives.{Giving, Fits, is_made, is_part, BranchBy, is_yes, is_no, is_then, is_as, ListedBy, is_last, is_more, ManyBy, is_none, is_one, UntilBy, is_end, is_on, Gives}

-- what a token is to be is not the end
pub fits_no_end : (front : Front) (token : Token) → Fits front token → symbol token ≡ End → ⊥
fits_no_end AName token h e = cc
fits_no_end ANumber token h e = cc
fits_no_end ANarrow token h e = cc
fits_no_end AText token h e = cc
fits_no_end (ASign sign) token h e = cc

module _ (mark : Token) (is_end' : symbol mark ≡ End) where
  -- both lists begin with one token
  same_begin : {r r' ts us : List Token} (test : Symbol → Bool) (b : Bool) → Agree mark r r' ts us → begins test ts ≡ b → begins test us ≡ b
  same_begin test b at_mark h = h
  same_begin test b (before a) h = h

  -- the same tree stands before the other tokens
  pub record Keeping {A : Type 0} (G : Giving A) (r r' us : List Token) (a : A) (entries : List Entry) (rest : List Token) : Type 0 where
    pub rest' : List Token
    pub gives : G us a entries rest'
    pub agree : Agree mark r r' rest rest'

  -- each tree stays
  abbrev pub Stay : {A : Type 0} → Giving A → Type 0
  Stay {A = A} G = (r r' tokens rest us : List Token) (a : A) (entries : List Entry) → G tokens a entries rest → Agree mark r r' tokens us → Keeping G r r' us a entries rest

  module _ {A : Type 0} (front : Front) (entry : Entry) (Yes : Token → Giving A) (No : Giving A) (yes' : (token : Token) → Stay (Yes token)) (no' : Stay No) where
    branch_stays : Stay (BranchBy front entry Yes No)
    branch_stays r r' tokens rest us a entries (is_yes {token = token} {others = others} {entries = es} h g) agree =
        let one = other mark is_end' agree (fits_no_end front token h) in
        let more = yes' token r r' others rest one.others a es g one.agree in
        record { rest' = more.rest'; gives = subst (λ ts. BranchBy front entry Yes No ts a (entry ∷ es) more.rest') (sym one.are) (is_yes h more.gives); agree = more.agree }
    branch_stays r r' tokens rest us a entries (is_no none g) agree =
        let more = no' r r' tokens rest us a entries g agree in
        record { rest' = more.rest'; gives = is_no (same_begin (is_front front) false agree none) more.gives; agree = more.agree }

  module _ {A : Type 0} (Part : Giving A) (stay : Stay Part) where
    listed_stays : Stay (ListedBy Part)
    listed_stays r r' tokens rest us as' entries (is_last {a = a} {entries = es} g) agree =
        let one = stay r r' tokens rest us a es g agree in
        record { rest' = one.rest'; gives = is_last one.gives; agree = one.agree }
    listed_stays r r' tokens rest us as' entries (is_more {comma = comma} {behind = behind} {a = a} {more = more} {entries = es} {others = others} g c l) agree =
        let one = stay r r' tokens (comma ∷ behind) us a es g agree in
        let two = other mark is_end' one.agree (fits_no_end (ASign ",") comma c) in
        let all = listed_stays r r' behind rest two.others more others l two.agree in
        record { rest' = all.rest'; gives = is_more (subst (λ ts. Part us a es ts) two.are one.gives) c all.gives; agree = all.agree }

    until_stays : (test : Symbol → Bool) → Stay (UntilBy test Part)
    until_stays test r r' tokens rest us as' entries (is_end h) agree = record { rest' = us; gives = is_end (same_begin test true agree h); agree = agree }
    until_stays test r r' tokens rest us as' entries (is_on {behind = behind} {a = a} {more = more} {entries = es} {others = others} n g u) agree =
        let one = stay r r' tokens behind us a es g agree in
        let all = until_stays test r r' behind rest one.rest' more others u one.agree in
        record { rest' = all.rest'; gives = is_on (same_begin test false agree n) one.gives all.gives; agree = all.agree }

  module _ {A : Type 0} (front : Front) (entry : Entry) (Part : Token → Giving A) (stay : (token : Token) → Stay (Part token)) where
    many_stays : Stay (ManyBy front entry Part)
    many_stays r r' tokens rest us as' entries (is_none none) agree = record { rest' = us; gives = is_none (same_begin (is_front front) false agree none); agree = agree }
    many_stays r r' tokens rest us as' entries (is_one {token = token} {others = others} {behind = behind} {a = a} {more = more} {entries = es} {es = rests} h g m) agree =
        let one = other mark is_end' agree (fits_no_end front token h) in
        let two = stay token r r' others behind one.others a es g one.agree in
        let all = many_stays r r' behind rest two.rest' more rests m two.agree in
        record { rest' = all.rest'; gives = subst (λ ts. ManyBy front entry Part ts (a ∷ more) (entry ∷ (es ++ rests)) all.rest') (sym one.are) (is_one h two.gives all.gives); agree = all.agree }

  -- each form stays
  pub form_stays : {A : Type 0} (form : Form A) → Stay (Gives form)
  form_stays (Made made) r r' tokens rest us a entries is_made agree = record { rest' = us; gives = is_made; agree = agree }
  form_stays Never r r' tokens rest us a entries g agree = absurd g
  form_stays (Branch front entry yes' no') r r' tokens rest us a entries g agree =
      branch_stays front entry (λ token. Gives (yes' token)) (Gives no') (λ token. form_stays (yes' token)) (form_stays no') r r' tokens rest us a entries g agree
  form_stays (Then form next) r r' tokens rest us b entries (is_then {mid = mid} {a = a} {entries = es} {others = others} g h) agree =
      let one = form_stays form r r' tokens mid us a es g agree in
      let two = form_stays (next a) r r' mid rest one.rest' b others h one.agree in
      record { rest' = two.rest'; gives = is_then one.gives two.gives; agree = two.agree }
  form_stays (As make form) r r' tokens rest us b entries (is_as {a = a} g) agree =
      let one = form_stays form r r' tokens rest us a entries g agree in
      record { rest' = one.rest'; gives = is_as one.gives; agree = one.agree }
  form_stays (Listed form) r r' tokens rest us a entries g agree = listed_stays (Gives form) (form_stays form) r r' tokens rest us a entries g agree
  form_stays (Many front entry form) r r' tokens rest us a entries g agree =
      many_stays front entry (λ token. Gives (form token)) (λ token. form_stays (form token)) r r' tokens rest us a entries g agree
  form_stays (Until test form) r r' tokens rest us a entries g agree = until_stays (Gives form) (form_stays form) test r r' tokens rest us a entries g agree
  form_stays (AType around) r r' tokens rest us a entries (is_part t) agree =
      let one = type_kept_is mark (alien mark is_end') t agree in
      record { rest' = one.rest'; gives = is_part one.part; agree = one.agree }
  form_stays (AnExpr around) r r' tokens rest us a entries (is_part e) agree =
      let one = expr_stays mark (alien mark is_end') e agree in
      record { rest' = one.rest'; gives = is_part one.part; agree = one.agree }
  form_stays (Stmts around) r r' tokens rest us a entries (is_part m) agree =
      let one = stmts_stay mark is_end' m agree in
      record { rest' = one.rest'; gives = is_part one.part; agree = one.agree }
