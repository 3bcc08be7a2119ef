-- The tokens of a text end with their end, and behind a module nothing is left of them.
use Rattle.std.proofs.Common.{◌≡◌, ◌∙◌, sym, ap, subst, refl, ℕ, zero, suc, List, [], ◌∷◌, ◌++◌, arith}
use Rattle.std.specs.Prelude.{Option, None}
use Rattle.std.specs.List.{All, flat_map}
use Rattle.def_token.specs.Lexical as lexical
use Rattle.def_token.specs.Lexical.{FitsKind, HasTokens, Kind, Token, token_behind}
use Rattle.law_token.proofs.Fitting.{sequence}
use Rattle.def_tree.specs.Limits.{Entry, all_open}
use Rattle.def_tree.specs.Symbol.{End, symbol, symbol_by}
use Rattle.def_module.specs.DeclTree.{ModuleTree}
use Rattle.def_module.specs.Entries.{decl_entries, header_entries, maybe_entries}
use Rattle.def_module.specs.Module.{IsModule, of_module}
use Rattle.def_reading.specs.Cursor.{At, Told, noted, passed}
use Rattle.def_reading.specs.TypeReading.{Ended}
use Rattle.law_types.proofs.AheadKept.{ended_front}
use Rattle.law_types.proofs.LimitSpots.{same_place}
use Rattle.law_decls.proofs.DeclComes.{module_arrives}

-- the last token of a text is the end
pub ended : (text : List ℕ) (tokens : List Token) → HasTokens text tokens → Ended tokens
ended text tokens h =
    let s = sequence text tokens h in
    subst Ended (sym s.ended) (ended_front s.front (token_behind text lexical.End [] ∷ []) refl)

-- a token that fits its kind is not the end
no_end : (kind : Kind) (text : List ℕ) → FitsKind kind text → symbol_by kind text ≡ End → ⊥
no_end lexical.Name text fits is = absurd (cc)
no_end lexical.Keyword text fits is = absurd (cc)
no_end lexical.Number text fits is = absurd (cc)
no_end lexical.Text text fits is = absurd (cc)
no_end lexical.Mark text fits is = absurd (cc)
no_end lexical.End text fits is = fits

-- where nothing is left no token is the next
none_left : (entries : List Entry) (at : ℕ) (limit : Option Told) {at' : ℕ} {limit' : Option Told}
    (end : Token) (rest : List Token)
    → passed entries (At at limit []) ≡ At at' limit' (end ∷ rest) → ⊥
none_left [] at limit end rest is = let same = (same_place is).2 in absurd (cc)
none_left (entry ∷ entries) at limit end rest is = none_left entries at limit end rest is

abbrev AllFit : List Token → Type 0
AllFit tokens = All (λ (token : Token). FitsKind token.kind token.text) tokens

-- the end behind some of these tokens is the last of them
first_end : (front : List Token) (last end : Token) (rest : List Token) → AllFit front
    → front ++ last ∷ [] ≡ end ∷ rest → symbol end ≡ End → rest ≡ []
first_end [] last end rest fits are is = let same : [] ≡ rest = cc in sym same
first_end (first ∷ front) last end rest fits are is =
    let same : first ≡ end = cc in
    absurd (no_end first.kind first.text (fits zero first (omega arith)) (ap symbol same ∙ is))

only_end : (entries : List Entry) (at : ℕ) (limit : Option Told) {at' : ℕ} {limit' : Option Told}
    (front : List Token) (last end : Token) (rest : List Token)
    → AllFit front → passed entries (At at limit (front ++ last ∷ [])) ≡ At at' limit' (end ∷ rest) → symbol end ≡ End
    → rest ≡ []
only_end [] at limit front last end rest fits are is = first_end front last end rest fits (same_place are).2 is
only_end (entry ∷ entries) at limit [] last end rest fits are is =
    absurd (none_left entries (suc at) (noted limit entry at last) end rest are)
only_end (entry ∷ entries) at limit (first ∷ front) last end rest fits are is =
    only_end entries (suc at) (noted limit entry at first) front last end rest
    (λ k other within. fits (suc k) other (omega (arith, within))) are is

-- behind the module that a text's tokens are no token is left
pub none_behind : (text : List ℕ) (tokens rest : List Token) (tree : ModuleTree) → HasTokens text tokens
    → IsModule tokens tree rest → rest ≡ []
none_behind text tokens rest tree h (of_module {end = end} {name = name} {decls = decls} header many is) =
    let s = sequence text tokens h in
    let entries = maybe_entries header_entries name ++ flat_map (decl_entries (all_open 0)) decls in
    let g = (module_arrives end header many is).comes.comes 0 None None in
    only_end entries 0 None s.front (token_behind text lexical.End []) end rest s.fits
    (ap (λ ts. passed entries (At 0 None ts)) (sym s.ended) ∙ g.passes tt) is
