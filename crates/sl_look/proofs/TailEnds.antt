-- Where looks at the tokens of a source end, by the table of those behind the first.
use Rattle.std.proofs.Common.{◌≡◌, ◌⊎◌, inl, inr, ℕ, zero, suc, ◌+◌, ◌-◌, ◌<◌, ◌≤◌, Bool, true, false, List, [], ◌∷◌, ◌++◌, length, take, drop, refl, sym, ap, subst, ◌∙◌, arith, get_or, codes}
use Rattle.std.specs.Prelude.{not, slice_get, Some}
use Rattle.std.proofs.lemmas.Option.{slice_get-get_or, slice_get_within}
use Rattle.std.proofs.lemmas.List.{length-map, drop-map, drop-drop, length-drop, take_all}
use Rattle.def_token.specs.Lexical as lexical
use Rattle.def_tree.specs.Symbol.{symbol}
use Rattle.def_tree.specs.TypeTree.{TypeWord}
use Rattle.sl_token.specs.View.{token_in, tokens_in}
use Rattle.sl_token.specs.declared.token.Token.{Token}
use Rattle.def_reading.specs.TypeReading.{AWord, AName, lead_of}
use Rattle.def_reading.specs.TypeAhead.{names}
use Rattle.sl_cursor.specs.Ending.{AreEnds, IsTable, PathEnds, TypeEnds, ListEnds}
use Rattle.sl_cursor.specs.Signs.{is_text}
use Rattle.sl_look.specs.Tails.{IsPathBehind}
use Rattle.sl_cursor.specs.declared.ends.End.{End}
use Rattle.sl_cursor.specs.declared.ends.Ends.{Ends}
use Rattle.sl_look.proofs.Endings as endings
use Rattle.sl_look.proofs.Endings.{end}

-- the slice from a place on
pub rest_from : {A : Type 0} (xs : List A) (from : ℕ) → take (length xs - from) (drop from xs) ≡ drop from xs
rest_from xs from = take_all (length xs - from) (drop from xs) (omega (arith, length-drop from xs))

-- the entry for what is left behind so many of the tokens
pub entry_behind : (tokens : List lexical.Token) (table : List Ends) (many : ℕ) (none : Ends) → IsTable tokens table → length table ≡ length tokens
    → 0 < many → many ≤ length tokens → AreEnds (get_or table (length tokens - many) none) (drop many tokens)
entry_behind tokens table many none right whole some within =
    subst (λ n. AreEnds (get_or table (length tokens - many) none) (drop n tokens)) (omega arith)
    (right (length tokens - many) (get_or table (length tokens - many) none) (slice_get-get_or table (length tokens - many) none (omega arith)))

-- the table of all tokens is one of the last of them
pub table_of_tail : (tokens : List lexical.Token) (table : List Ends) (many : ℕ) → IsTable tokens table → length table + many ≡ length tokens → IsTable (drop many tokens) table
table_of_tail tokens table many right whole left ends got =
    let below : left < length table = slice_get_within table left ends got in
    let h = length-drop many tokens in
    subst (AreEnds ends) (ap (λ n. drop n tokens) (omega arith) ∙ sym (drop-drop (length (drop many tokens) - left) many tokens)) (right left ends got)

-- the last tokens of a source, as many as a table has entries
pub tail_lexed : (source : List ℕ) (tokens : List Token) (from : ℕ)
    → tokens_in source (take (length tokens - from) (drop from tokens)) ≡ drop from (tokens_in source tokens)
tail_lexed source tokens from = ap (tokens_in source) (rest_from tokens from) ∙ sym (drop-map (token_in source) from tokens)

pub tail_table : (source : List ℕ) (tokens : List Token) (table kept : List Ends) (many from : ℕ) → many ≡ length table → kept ≡ table → from ≡ length tokens - many
    → length table ≤ length tokens → IsTable (tokens_in source tokens) table → IsTable (tokens_in source (take (length tokens - from) (drop from tokens))) kept
tail_table source tokens table kept many from m k f short right =
    let all : length (tokens_in source tokens) ≡ length tokens = length-map tokens (token_in source) in
    subst (λ t. IsTable (tokens_in source (take (length tokens - from) (drop from tokens))) t) (sym k)
    (subst (λ ts. IsTable ts table) (sym (tail_lexed source tokens from)) (table_of_tail (tokens_in source tokens) table from right (omega arith)))

pub tail_whole : (tokens : List Token) (table kept : List Ends) (many from : ℕ) → many ≡ length table → kept ≡ table → from ≡ length tokens - many
    → length table ≤ length tokens → length kept ≡ length (take (length tokens - from) (drop from tokens))
tail_whole tokens table kept many from m k f short =
    ap length k ∙ (let e : length table ≡ length tokens - from = omega arith in e) ∙ sym (ap length (rest_from tokens from) ∙ length-drop from tokens)

-- an element of a list with one more at its end
last_or_before : {A : Type 0} (xs : List A) (x got : A) (k : ℕ) → slice_get (xs ++ x ∷ []) k ≡ Some got
    → (slice_get xs k ≡ Some got) ⊎ ((k ≡ length xs) × (x ≡ got))
last_or_before [] x got zero h = inr (refl, cc)
last_or_before [] x got (suc k) h = absurd (cc)
last_or_before (y ∷ ys) x got zero h = inl h
last_or_before (y ∷ ys) x got (suc k) h =
    elim (last_or_before ys x got k h) [ inl e ↦ inl e | inr e ↦ inr (ap suc e.0, e.1) ]

-- one more entry
pub table_longer : (tokens : List lexical.Token) (table longer : List Ends) (ends : Ends) → longer ≡ table ++ ends ∷ [] → IsTable tokens table
    → AreEnds ends (drop (length tokens - length table) tokens) → IsTable tokens longer
table_longer tokens table longer ends is right more left others got =
    elim (last_or_before table ends others left (ap (λ t. slice_get t left) (sym is) ∙ got)) [
      | inl before ↦ right left others before
      | inr last ↦ subst (λ n. AreEnds others (drop (length tokens - n) tokens)) (sym last.0)
          (subst (λ e. AreEnds e (drop (length tokens - length table) tokens)) last.1 more)
    ]

pub unless_not : (b : Bool) → not b ≡ false → b ≡ true
unless_not true h = refl
unless_not false h = absurd (cc)

-- where looks end that find nothing, and pass nothing
abbrev pub no_ends : Ends
no_ends = record { path = end false 0; one = end false 0; list = end false 0 }

-- no token
pub no_type : (source : List ℕ) (tokens : List Token) → tokens ≡ [] → TypeEnds (end false 0) (tokens_in source tokens)
no_type source tokens none = subst (λ ts. TypeEnds (end false 0) (tokens_in source ts)) (sym none) endings.type_nothing

-- names behind dots

pub dotted : (source : List ℕ) (tokens after rest : List Token) (dot name : Token) (e : End) → tokens ≡ dot ∷ after → after ≡ name ∷ rest
    → is_text (codes ".") (symbol (token_in source dot)) ≡ true → names (symbol (token_in source name)) ≡ true
    → IsPathBehind 2 e (tokens_in source tokens) → PathEnds e (tokens_in source tokens)
dotted source tokens after rest dot name e one two d n p =
    let are : tokens ≡ dot ∷ name ∷ rest = one ∙ ap (λ ts. dot ∷ ts) two in
    subst (λ x. PathEnds x (tokens_in source tokens)) (sym p.is)
    (subst (λ ts. PathEnds (end p.behind.found (2 + p.behind.many)) (tokens_in source ts)) (sym are)
    (endings.path_more (token_in source dot) (token_in source name) (tokens_in source rest) p.behind d n
    (subst (λ ts. PathEnds p.behind (drop 2 (tokens_in source ts))) are p.ends)))

pub worded : (source : List ℕ) (tokens after : List Token) (first : Token) (e : End) → tokens ≡ first ∷ after
    → (word : TypeWord) → lead_of (symbol (token_in source first)) ≡ AWord word
    → IsPathBehind 1 e (tokens_in source tokens) → TypeEnds e (tokens_in source tokens)
worded source tokens after first e one word l p =
    subst (λ x. TypeEnds x (tokens_in source tokens)) (sym p.is)
    (subst (λ ts. TypeEnds (end p.behind.found (1 + p.behind.many)) (tokens_in source ts)) (sym one)
    (endings.type_word (token_in source first) (tokens_in source after) word p.behind l
    (subst (λ ts. PathEnds p.behind (drop 1 (tokens_in source ts))) one p.ends)))

pub named_alone : (source : List ℕ) (tokens : List Token) (name : Token) (e : End) → tokens ≡ name ∷ [] → lead_of (symbol (token_in source name)) ≡ AName
    → IsPathBehind 1 e (tokens_in source tokens) → TypeEnds e (tokens_in source tokens)
named_alone source tokens name e one l p =
    subst (λ x. TypeEnds x (tokens_in source tokens)) (sym p.is)
    (subst (λ ts. TypeEnds (end p.behind.found (1 + p.behind.many)) (tokens_in source ts)) (sym one)
    (endings.type_name (token_in source name) [] p.behind l refl
    (subst (λ ts. PathEnds p.behind (drop 1 (tokens_in source ts))) one p.ends)))

pub named_plain : (source : List ℕ) (tokens after rest : List Token) (name opening : Token) (e : End) → tokens ≡ name ∷ after → after ≡ opening ∷ rest
    → lead_of (symbol (token_in source name)) ≡ AName → is_text (codes "<") (symbol (token_in source opening)) ≡ false
    → IsPathBehind 1 e (tokens_in source tokens) → TypeEnds e (tokens_in source tokens)
named_plain source tokens after rest name opening e one two l o p =
    let are : tokens ≡ name ∷ opening ∷ rest = one ∙ ap (λ ts. name ∷ ts) two in
    subst (λ x. TypeEnds x (tokens_in source tokens)) (sym p.is)
    (subst (λ ts. TypeEnds (end p.behind.found (1 + p.behind.many)) (tokens_in source ts)) (sym are)
    (endings.type_name (token_in source name) (tokens_in source (opening ∷ rest)) p.behind l o
    (subst (λ ts. PathEnds p.behind (drop 1 (tokens_in source ts))) are p.ends)))

pub named_with : (source : List ℕ) (tokens after rest : List Token) (name opening : Token) (args e : End) → tokens ≡ name ∷ after → after ≡ opening ∷ rest
    → lead_of (symbol (token_in source name)) ≡ AName → is_text (codes "<") (symbol (token_in source opening)) ≡ true
    → args.found ≡ true → ListEnds args (drop 2 (tokens_in source tokens))
    → IsPathBehind (2 + args.many) e (tokens_in source tokens) → TypeEnds e (tokens_in source tokens)
named_with source tokens after rest name opening args e one two l o f list p =
    let are : tokens ≡ name ∷ opening ∷ rest = one ∙ ap (λ ts. name ∷ ts) two in
    let found : args ≡ end true args.many = ap (λ b. end b args.many) f in
    subst (λ x. TypeEnds x (tokens_in source tokens)) (sym p.is)
    (subst (λ ts. TypeEnds (end p.behind.found (2 + args.many + p.behind.many)) (tokens_in source ts)) (sym are)
    (endings.type_with (token_in source name) (token_in source opening) (tokens_in source rest) args.many p.behind l o
    (subst (λ a. ListEnds a (tokens_in source rest)) found (subst (λ ts. ListEnds args (drop 2 (tokens_in source ts))) are list))
    (subst (PathEnds p.behind) (ap (λ ts. drop (2 + args.many) (tokens_in source ts)) are ∙ sym (drop-drop args.many 2 (tokens_in source (name ∷ opening ∷ rest)))) p.ends)))

pub named_without : (source : List ℕ) (tokens after rest : List Token) (name opening : Token) (args : End) → tokens ≡ name ∷ after → after ≡ opening ∷ rest
    → lead_of (symbol (token_in source name)) ≡ AName → is_text (codes "<") (symbol (token_in source opening)) ≡ true
    → args.found ≡ false → ListEnds args (drop 2 (tokens_in source tokens)) → TypeEnds (end false (2 + args.many)) (tokens_in source tokens)
named_without source tokens after rest name opening args one two l o f list =
    let are : tokens ≡ name ∷ opening ∷ rest = one ∙ ap (λ ts. name ∷ ts) two in
    let missing : args ≡ end false args.many = ap (λ b. end b args.many) f in
    subst (λ ts. TypeEnds (end false (2 + args.many)) (tokens_in source ts)) (sym are)
    (endings.type_without (token_in source name) (token_in source opening) (tokens_in source rest) args.many l o
    (subst (λ a. ListEnds a (tokens_in source rest)) missing (subst (λ ts. ListEnds args (drop 2 (tokens_in source ts))) are list)))

-- types up to `>`

-- what stands behind a type
rest_is : (source : List ℕ) (tokens rest : List Token) (many : ℕ) → drop many tokens ≡ rest → drop many (tokens_in source tokens) ≡ tokens_in source rest
rest_is source tokens rest many is = drop-map (token_in source) many tokens ∙ ap (tokens_in source) is

-- the end with what is known of it
one_is : (one : End) (found : Bool) → one.found ≡ found → one ≡ end found one.many
one_is one found f = ap (λ b. end b one.many) f

pub without_one : (tokens : List lexical.Token) (one : End) → one.found ≡ false → TypeEnds one tokens → ListEnds one tokens
without_one tokens one f t =
    subst (λ e. ListEnds e tokens) (sym (one_is one false f)) (endings.list_missing tokens one.many (subst (λ e. TypeEnds e tokens) (one_is one false f) t))

pub nothing_behind : (source : List ℕ) (tokens : List Token) (one : End) → one.found ≡ true → TypeEnds one (tokens_in source tokens) → drop one.many tokens ≡ []
    → ListEnds (end false one.many) (tokens_in source tokens)
nothing_behind source tokens one f t is =
    endings.list_nothing (tokens_in source tokens) one.many (subst (λ e. TypeEnds e (tokens_in source tokens)) (one_is one true f) t) (rest_is source tokens [] one.many is)

pub comma_behind : (source : List ℕ) (tokens rest : List Token) (mark : Token) (one more : End) → one.found ≡ true → TypeEnds one (tokens_in source tokens)
    → drop one.many tokens ≡ mark ∷ rest → is_text (codes ",") (symbol (token_in source mark)) ≡ true
    → ListEnds more (drop (one.many + 1) (tokens_in source tokens)) → ListEnds (end more.found (one.many + 1 + more.many)) (tokens_in source tokens)
comma_behind source tokens rest mark one more f t is c l =
    endings.list_comma (tokens_in source tokens) (tokens_in source rest) (token_in source mark) one.many more
    (subst (λ e. TypeEnds e (tokens_in source tokens)) (one_is one true f) t) (rest_is source tokens (mark ∷ rest) one.many is) c
    (subst (ListEnds more) (sym (drop-drop 1 one.many (tokens_in source tokens)) ∙ ap (drop 1) (rest_is source tokens (mark ∷ rest) one.many is)) l)

pub closed_behind : (source : List ℕ) (tokens rest : List Token) (mark : Token) (one : End) → one.found ≡ true → TypeEnds one (tokens_in source tokens)
    → drop one.many tokens ≡ mark ∷ rest → is_text (codes ",") (symbol (token_in source mark)) ≡ false → is_text (codes ">") (symbol (token_in source mark)) ≡ true
    → ListEnds (end true (one.many + 1)) (tokens_in source tokens)
closed_behind source tokens rest mark one f t is c g =
    endings.list_closed (tokens_in source tokens) (tokens_in source rest) (token_in source mark) one.many
    (subst (λ e. TypeEnds e (tokens_in source tokens)) (one_is one true f) t) (rest_is source tokens (mark ∷ rest) one.many is) c g

pub other_behind : (source : List ℕ) (tokens rest : List Token) (mark : Token) (one : End) → one.found ≡ true → TypeEnds one (tokens_in source tokens)
    → drop one.many tokens ≡ mark ∷ rest → is_text (codes ",") (symbol (token_in source mark)) ≡ false → is_text (codes ">") (symbol (token_in source mark)) ≡ false
    → ListEnds (end false one.many) (tokens_in source tokens)
other_behind source tokens rest mark one f t is c g =
    endings.list_other (tokens_in source tokens) (tokens_in source rest) (token_in source mark) one.many
    (subst (λ e. TypeEnds e (tokens_in source tokens)) (one_is one true f) t) (rest_is source tokens (mark ∷ rest) one.many is) c g
