use Rattle.std.proofs.Common.{◌≡◌, ℕ, arith, refl, ap, ◌∙◌, List, [], ◌++◌, length, drop, length-append}
use Rattle.abt_headers.proofs.Fields.{put_more, regroup_5}
use Rattle.abt_headers.proofs.boot_writing.put_front.Goals as goal

pub returns-clause-long : goal.returns-clause-long
returns-clause-long c =
    let f = c.args.front.now in
    let n16 : length f.name ≡ 16 = omega arith in
    let n512 : length f.cmdline ≡ 512 = omega arith in
    let n32 : length f.id ≡ 32 = omega arith in
    let n1024 : length f.extra_cmdline ≡ 1024 = omega arith in
    simp length-append (omega arith)

pub returns-clause-bytes : goal.returns-clause-bytes
returns-clause-bytes c =
    let old = c.args.out.now in
    let f = c.args.front.now in
    let h = c.front_head.result in
    let n : length h ≡ 48 = omega arith in
    let n16 : length f.name ≡ 16 = omega arith in
    let n512 : length f.cmdline ≡ 512 = omega arith in
    let n32 : length f.id ≡ 32 = omega arith in
    let n1024 : length f.extra_cmdline ≡ 1024 = omega arith in
    let a1 = put_more [] old old c.put.new.out h 0 48 refl n refl c.put.ensures in
    let a2 = put_more h old c.put.new.out c.put-2.new.out f.name 48 16 n n16 a1 c.put-2.ensures in
    let a3 = put_more (h ++ f.name) old c.put-2.new.out c.put-3.new.out f.cmdline 64 512
    (simp length-append (omega arith)) n512 a2 c.put-3.ensures in
    let a4 = put_more ((h ++ f.name) ++ f.cmdline) old c.put-3.new.out c.put-4.new.out f.id 576 32
    (simp length-append (omega arith)) n32 a3 c.put-4.ensures in
    let a5 = put_more (((h ++ f.name) ++ f.cmdline) ++ f.id) old c.put-4.new.out c.put-5.new.out f.extra_cmdline 608
    1024 (simp length-append (omega arith)) n1024 a4 c.put-5.ensures in
    a5 ∙ regroup_5 h f.name f.cmdline f.id f.extra_cmdline (drop 1632 old)
    ∙ ap (λ (t : List ℕ). (t ++ (f.name ++ (f.cmdline ++ (f.id ++ (f.extra_cmdline ++ [])))))
    ++ drop 1632 old) c.front_head.ensures
