-- A text is cut in one way, so it has one list of tokens or one fault.
use Rattle.std.proofs.Common.{◌≡◌, ℕ, ◌≤◌, true, List, [], ◌∷◌, ◌++◌, length, take, drop, refl, sym, ap, subst, ◌∙◌, arith, length-append}
use Rattle.std.specs.List.{list_all}
use Rattle.std.proofs.lemmas.Bool.{and_parts, false≢true}
use Rattle.std.proofs.Math.Seq.{drop-append_seam}
use Rattle.def_token.specs.Lexeme.{Class, Piece, IsPiece, Front, Cuts}
use Rattle.def_token.specs.Lexical.{Place, Token, Fault, Verdict, IsFault, verdict, no_fault, is_faultless, tokens_among, token_behind, End, args_of, place_behind, mark_before, bytes_of, HasTokens, HasLexicalFault, IsDetermined}
use Rattle.def_slang.specs.Token.{without_mark}
use Rattle.law_token.proofs.Pieces.{told, told_is, front_take, piece_some}

abbrev piece_with : Class → List ℕ → Piece
piece_with class bytes = record { class = class; bytes = bytes }

piece_by : (this other : Piece) → this.class ≡ other.class → this.bytes ≡ other.bytes → this ≡ other
piece_by this other class bytes = ap (λ c. piece_with c this.bytes) class ∙ ap (piece_with other.class) bytes

abbrev fault_with : Place → ℕ → List (List ℕ) → Fault
fault_with place code args = record { place = place; code = code; args = args }

fault_by : (this other : Fault) → this.place ≡ other.place → this.code ≡ other.code → this.args ≡ other.args → this ≡ other
fault_by this other place code args =
    ap (λ p. fault_with p this.code this.args) place ∙ ap (λ c. fault_with other.place c this.args) code ∙ ap (fault_with other.place other.code) args

no_longer : {text rest others : List ℕ} {piece other : Piece} → Front text piece rest → Front text other others → length piece.bytes ≤ length other.bytes
no_longer {text = text} {rest = rest} {piece = piece} f g =
    let fits : length piece.bytes ≤ length text = omega (arith, ap length f.parts, length-append piece.bytes rest) in
    g.longest piece.class (length piece.bytes) fits (subst (IsPiece piece.class) (sym (front_take f)) f.kind)

pub same_bytes : {text rest others : List ℕ} {piece other : Piece} → Front text piece rest → Front text other others → piece.bytes ≡ other.bytes
same_bytes {text = text} {piece = piece} {other = other} f g =
    let same : length piece.bytes ≡ length other.bytes = omega (arith, no_longer f g, no_longer g f) in
    sym (front_take f) ∙ ap (λ n. take n text) same ∙ front_take g

pub same_piece : {text rest others : List ℕ} {piece other : Piece} → Front text piece rest → Front text other others → piece ≡ other
same_piece {piece = piece} {other = other} f g =
    let bytes = same_bytes f g in
    let class : piece.class ≡ other.class = sym (told_is piece.class piece.bytes f.kind) ∙ ap told bytes ∙ told_is other.class other.bytes g.kind in
    piece_by piece other class bytes

rest_is : {text rest : List ℕ} {piece : Piece} → Front text piece rest → drop (length piece.bytes) text ≡ rest
rest_is {rest = rest} {piece = piece} f = ap (drop (length piece.bytes)) f.parts ∙ drop-append_seam piece.bytes rest

pub same_rest : {text rest others : List ℕ} {piece other : Piece} → Front text piece rest → Front text other others → rest ≡ others
same_rest {text = text} f g = sym (rest_is f) ∙ ap (λ (bytes : List ℕ). drop (length bytes) text) (same_bytes f g) ∙ rest_is g

pub no_front : {rest : List ℕ} {piece : Piece} → Front [] piece rest → ⊥
no_front {rest = rest} {piece = piece} f = omega (arith, piece_some piece.class piece.bytes f.kind, ap length f.parts, length-append piece.bytes rest)

same_pieces : (text : List ℕ) (these others : List Piece) → Cuts text these [] → Cuts text others [] → these ≡ others
same_pieces text [] [] h k = refl
same_pieces text [] (other ∷ others) h k = absurd (no_front (subst (λ t. Front t other k.0) h k.1))
same_pieces text (this ∷ these) [] h k = absurd (no_front (subst (λ t. Front t this h.0) k h.1))
same_pieces text (this ∷ these) (other ∷ others) h k =
    let first = same_piece h.1 k.1 in
    let more = same_pieces h.0 these others h.2 (subst (λ t. Cuts t others []) (sym (same_rest h.1 k.1)) k.2) in
    cc

-- a piece with a fault is not faultless
not_faultless : (v : Verdict) (code : ℕ) → v ≡ IsFault code → no_fault v ≡ true → ⊥
not_faultless v code h k = false≢true (sym (ap no_fault h) ∙ k)

meets : (text : List ℕ) (pieces before : List Piece) (rest after : List ℕ) (bad : Piece) (code : ℕ)
    → Cuts text pieces [] → list_all is_faultless pieces ≡ true → Cuts text before rest → Front rest bad after → verdict bad ≡ IsFault code → ⊥
meets text [] [] rest after bad code h all k f v = no_front (subst (λ t. Front t bad after) (sym k ∙ h) f)
meets text [] (b ∷ before) rest after bad code h all k f v = no_front (subst (λ t. Front t b k.0) h k.1)
meets text (p ∷ pieces) [] rest after bad code h all k f v =
    let same = same_piece h.1 (subst (λ t. Front t bad after) (sym k) f) in
    not_faultless (verdict bad) code v (ap is_faultless (sym same) ∙ (and_parts (is_faultless p) (list_all is_faultless pieces) all).0)
meets text (p ∷ pieces) (b ∷ before) rest after bad code h all k f v =
    meets h.0 pieces before rest after bad code h.2 (and_parts (is_faultless p) (list_all is_faultless pieces) all).1
    (subst (λ t. Cuts t before rest) (sym (same_rest h.1 k.1)) k.2) f v

-- where two cuts come to a fault, the pieces before and the piece with the fault are the same
pub record IsOneFault (these others : List Piece) (this other : Piece) : Type 0 where
  pub before : these ≡ others
  pub piece : this ≡ other

one_fault : (text : List ℕ) (these others : List Piece) (rest after : List ℕ) (this : Piece) (code : ℕ) (rest' after' : List ℕ) (other : Piece) (code' : ℕ)
    → Cuts text these rest → list_all is_faultless these ≡ true → Front rest this after → verdict this ≡ IsFault code
    → Cuts text others rest' → list_all is_faultless others ≡ true → Front rest' other after' → verdict other ≡ IsFault code'
    → IsOneFault these others this other
one_fault text [] [] rest after this code rest' after' other code' h all f v h' all' f' v' =
    record { before = refl; piece = same_piece (subst (λ t. Front t this after) (sym h) f) (subst (λ t. Front t other after') (sym h') f') }
one_fault text [] (p ∷ others) rest after this code rest' after' other code' h all f v h' all' f' v' =
    let same = same_piece (subst (λ t. Front t this after) (sym h) f) h'.1 in
    absurd (not_faultless (verdict this) code v (ap is_faultless same ∙ (and_parts (is_faultless p) (list_all is_faultless others) all').0))
one_fault text (p ∷ these) [] rest after this code rest' after' other code' h all f v h' all' f' v' =
    let same = same_piece (subst (λ t. Front t other after') (sym h') f') h.1 in
    absurd (not_faultless (verdict other) code' v' (ap is_faultless same ∙ (and_parts (is_faultless p) (list_all is_faultless these) all).0))
one_fault text (p ∷ these) (p' ∷ others) rest after this code rest' after' other code' h all f v h' all' f' v' =
    let first = same_piece h.1 h'.1 in
    let cut = subst (λ t. Cuts t others rest') (sym (same_rest h.1 h'.1)) h'.2 in
    let more = one_fault h.0 these others rest after this code rest' after' other code' h.2
    (and_parts (is_faultless p) (list_all is_faultless these) all).1 f v cut
    (and_parts (is_faultless p') (list_all is_faultless others) all').1 f' v' in
    let behind = more.before in
    record { before = cc; piece = more.piece }

same_code : (v : Verdict) (a b : ℕ) → v ≡ IsFault a → v ≡ IsFault b → a ≡ b
same_code v a b h k = cc

determined_tokens : (text : List ℕ) (these others : List Token) → HasTokens text these → HasTokens text others → these ≡ others
determined_tokens text these others h k =
    let pieces = same_pieces (without_mark text) h.pieces k.pieces h.cut k.cut in
    h.tokens_are ∙ ap (λ ps. tokens_among (mark_before text) ps ++ token_behind text End [] ∷ []) pieces ∙ sym k.tokens_are

determined_fault : (text : List ℕ) (this other : Fault) → HasLexicalFault text this → HasLexicalFault text other → this ≡ other
determined_fault text this other h k =
    let one = one_fault (without_mark text) h.pieces k.pieces h.rest h.after h.piece this.code k.rest k.after k.piece other.code
    h.cut h.faultless h.front h.faulty k.cut k.faultless k.front k.faulty in
    let code = same_code (verdict h.piece) this.code other.code h.faulty (ap verdict one.piece ∙ k.faulty) in
    let args = h.args_are ∙ ap (λ c. args_of c h.piece.bytes) code ∙ ap (λ (p : Piece). args_of other.code p.bytes) one.piece ∙ sym k.args_are in
    let place = h.place_is ∙ ap (λ ps. place_behind (mark_before text ++ bytes_of ps)) one.before ∙ sym k.place_is in
    fault_by this other place code args

pub determined : (text : List ℕ) → IsDetermined text
determined text =
    record {
      tokens = determined_tokens text;
      fault = determined_fault text;
      one = λ tokens fault h k.
          meets (without_mark text) h.pieces k.pieces k.rest k.after k.piece fault.code h.cut h.faultless k.cut k.front k.faulty;
    }
