use Rattle.std.proofs.Common.{◌≡◌, ◌∷◌, ◌-◌, ◌<◌, length, take, sym, ap, subst, ◌∙◌}
use Rattle.std.specs.Str.{chars, encode_utf8_all}
use Rattle.std.specs.List.{prefix_len}
use Rattle.unicode_ident.specs.Ident.{is_xid_continue}
use Rattle.brisk_lex.specs.Tokens.{name_token, name_cut, token_cut}
use Rattle.brisk_lex.proofs.Chars.{name_text}
use Rattle.brisk_lex.proofs.cut.name_cut.Goals as goal

pub slice_bounds-bytes-count : goal.slice_bounds-bytes-count
slice_bounds-bytes-count c =
    let n = prefix_len is_xid_continue (chars c.args.after.now) in
    let t = name_text c.args.start.now c.args.after.now c.past_name-end.result.now c.args.c n c.utf8.start c.past_name-end.utf8 c.requires.whole c.past_name-end.ensures in
    t.shorter

pub name_token-requires : goal.name_token-requires
name_token-requires c =
    let n = prefix_len is_xid_continue (chars c.args.after.now) in
    let t = name_text c.args.start.now c.args.after.now c.past_name-end.result.now c.args.c n c.utf8.start c.past_name-end.utf8 c.requires.whole c.past_name-end.ensures in
    let name = encode_utf8_all (c.args.c ∷ take n (chars c.args.after.now)) in
    let e : take (length c.args.start.now - length c.past_name-end.result.now) c.as_bytes.result.now ≡ name = rw c.as_bytes.ensures.value t.bytes in
    subst (λ l. 0 < length l) (sym e) t.some

pub returns-in-Ok : goal.returns-in-Ok
unfolding name_cut
returns-in-Ok c =
    let n = prefix_len is_xid_continue (chars c.args.after.now) in
    let t = name_text c.args.start.now c.args.after.now c.past_name-end.result.now c.args.c n c.utf8.start c.past_name-end.utf8 c.requires.whole c.past_name-end.ensures in
    let name = encode_utf8_all (c.args.c ∷ take n (chars c.args.after.now)) in
    let e : take (length c.args.start.now - length c.past_name-end.result.now) c.as_bytes.result.now ≡ name = rw c.as_bytes.ensures.value t.bytes in
    (n, ap (λ r. token_cut r n) (ap name_token (sym e) ∙ sym c.name_token.ensures ∙ c.in-Ok.is), c.past_name-end.ensures)

pub returns-in-Err : goal.returns-in-Err
unfolding name_cut
returns-in-Err c =
    let n = prefix_len is_xid_continue (chars c.args.after.now) in
    let t = name_text c.args.start.now c.args.after.now c.past_name-end.result.now c.args.c n c.utf8.start c.past_name-end.utf8 c.requires.whole c.past_name-end.ensures in
    let name = encode_utf8_all (c.args.c ∷ take n (chars c.args.after.now)) in
    let e : take (length c.args.start.now - length c.past_name-end.result.now) c.as_bytes.result.now ≡ name = rw c.as_bytes.ensures.value t.bytes in
    ap (λ r. token_cut r n) (ap name_token (sym e) ∙ sym c.name_token.ensures ∙ c.in-Err.is)
