mod LentLaws
