mod CheckLaws
