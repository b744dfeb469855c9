use Rattle.std.proofs.Common.{List, [], ◌++◌, map, ap, ◌∙◌}
use Rattle.kf_ast.specs.Views.{stmt_tree}
use Rattle.kf_core.specs.Views.{st_tree}
use Rattle.kf_lines.specs.Sites.{sites}
use Rattle.kf_lines.specs.Views.{behind, site_of}
use Rattle.kf_lines.specs.declared.site.Site.{Site}
use Rattle.kf_lines.proofs.Walking.{behind_none}
use Rattle.kf_lines.proofs.sites.sites_of.Goals as goal

pub returns : goal.returns
returns c =
    let own = sites (stmt_tree c.args.stmt.now) (st_tree c.args.st.now) in
    ap (map site_of) c.new.ensures ∙ c.in_ok-add_sites.ensures ∙ ap (λ (made : List Site). map site_of made ++ map (behind []) own) c.new-out.ensures.items ∙ behind_none own
