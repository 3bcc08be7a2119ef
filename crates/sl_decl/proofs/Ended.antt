-- Behind the end of a source no token stands.
use Rattle.std.proofs.Common.{◌≡◌, ℕ, zero, suc, List, [], ◌∷◌, ◌++◌, drop, sym, ap, ◌∙◌}
use Rattle.std.specs.Prelude.{All}
use Rattle.std.proofs.lemmas.List.{drop-map}
use Rattle.std.proofs.lemmas.List.Elements.{All-head, All-tail}
use Rattle.def_token.specs.Lexical.{Token, HasTokens, FitsKind, Kind}
use Rattle.def_token.specs.Lexical as lexical
use Rattle.law_token.proofs.Fitting.{sequence}
use Rattle.def_tree.specs.Limits.{plain}
use Rattle.def_tree.specs.Symbol.{End, symbol, symbol_by}
use Rattle.law_decls.proofs.ModuleRead.{end_is}
use Rattle.def_decl_reading.specs.Form.{ends}
use Rattle.sl_token.specs.View.{token_in, tokens_in}
use Rattle.sl_token.specs.declared.token.Token as kept
use Rattle.sl_cursor.specs.Following.{IsAt, IsPassed}
use Rattle.sl_cursor.specs.declared.source.Here.{Here}
use Rattle.sl_cursor.specs.declared.source.Source.{Source}
use Rattle.sl_decl.specs.Modules.{IsBehindEnd}

no_end : (kind : Kind) (text : List ℕ) → FitsKind kind text → symbol_by kind text ≡ End → ⊥
no_end lexical.Name text f h = absurd (cc)
no_end lexical.Keyword text f h = absurd (cc)
no_end lexical.Number text f h = absurd (cc)
no_end lexical.Text text f h = absurd (cc)
no_end lexical.Mark text f h = absurd (cc)
no_end lexical.End text f h = f

-- the text of a token is of its kind
abbrev HasKind : Token → Type 0
HasKind token = FitsKind token.kind token.text

only_end : (front : List Token) (last : Token) → All HasKind front → (k : ℕ) (token : Token) (more : List Token)
    → drop k (front ++ last ∷ []) ≡ token ∷ more → symbol token ≡ End → more ≡ []
only_end [] last fits zero token more h e = let rest : [] ≡ more = cc in sym rest
only_end [] last fits (suc zero) token more h e = absurd (cc)
only_end [] last fits (suc (suc k)) token more h e = absurd (cc)
only_end (first ∷ front) last fits zero token more h e =
    let same : first ≡ token = cc in
    absurd (no_end first.kind first.text (All-head HasKind first front fits) (ap symbol same ∙ e))
only_end (first ∷ front) last fits (suc k) token more h e = only_end front last
    (All-tail HasKind first front fits) k token more h e

-- no token stands behind the end of a source
pub none_behind : (text : List ℕ) (tokens : List Token) → HasTokens text tokens
    → (k : ℕ) (token : Token) (more : List Token) → drop k tokens ≡ token ∷ more → symbol token ≡ End → more ≡ []
none_behind text tokens t k token more h e =
    let s = sequence text tokens t in
    only_end s.front (lexical.token_behind text lexical.End []) s.fits k token more (ap (drop k) (sym s.ended) ∙ h) e

pub behind_end : (source : Source) (from : Here) (mark : kept.Token) (to : Here) → IsAt source from.place
    → IsPassed source ends plain from mark to → IsBehindEnd source to
behind_end source from mark to at p =
    let bytes = source.bytes.now in
    let all = tokens_in bytes source.tokens.now in
    let stands : drop from.place.at all ≡ token_in bytes mark ∷ p.more = drop-map
    (token_in bytes) from.place.at source.tokens.now ∙ ap (tokens_in bytes) (sym at.stands.rest) ∙ p.are in
    let there = rw p.are at p.place in
    let rest : tokens_in bytes to.place.rest.now ≡ p.more = cc in
    record {
      before = from.place.at;
      mark = mark;
      are = stands ∙ ap (λ more. token_in bytes mark ∷ more) (sym rest);
      ends = end_is (symbol (token_in bytes mark)) p.fits;
    }
