use Rattle.std.proofs.Common.{◌≡◌, ◌∙◌, ◌==◌, length, take, ap, sym, ℕ}
use Rattle.std.proofs.lemmas.List.Folds.{length-prefix_len}
use Rattle.std.specs.List.{position_or_len}
use Rattle.std.specs.Option.{unwrap_or}
use Rattle.std.specs.Prelude.{not}
use Rattle.sp_places.proofs.Modules.{first_or_length}
use Rattle.sp_places.proofs.operands.text_in.Goals as goal

pub slice_bounds-result-end : goal.slice_bounds-result-end
slice_bounds-result-end c =
    let e : c.unwrap_or-end.result ≡ position_or_len (λ (b : ℕ). b == 0) c.args.bytes.now =
    c.unwrap_or-end.ensures ∙ ap (λ o. unwrap_or o (length c.args.bytes.now)) c.zero_in.ensures ∙ first_or_length (λ (b : ℕ). b == 0) c.args.bytes.now in
    rw e (sym (length-prefix_len (λ (b : ℕ). not (b == 0)) c.args.bytes.now))

pub returns : goal.returns
returns c =
    let e : c.unwrap_or-end.result ≡ position_or_len (λ (b : ℕ). b == 0) c.args.bytes.now =
    c.unwrap_or-end.ensures ∙ ap (λ o. unwrap_or o (length c.args.bytes.now)) c.zero_in.ensures ∙ first_or_length (λ (b : ℕ). b == 0) c.args.bytes.now in
    ap (λ n. take n c.args.bytes.now) e
